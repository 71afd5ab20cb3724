-- What is put into a place stands there, and the other places stay.
use lib.Seq.{get_or-set_same, get_or-set_other}
use Rattle.lab_places.specs.Kept.{PutStands, OthersStay}

pub put-stands : PutStands
put-stands ns n s h = get_or-set_same ns n _ _ h

pub others-stay : OthersStay
others-stay ns n m s h = get_or-set_other ns n m _ _ h
