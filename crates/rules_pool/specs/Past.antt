-- What the pool went through since its membership was last emptied by a delete.
use Rattle.std.specs.Prelude.{Bool, false, ◌&&◌, ◌||◌}
use Rattle.rules_pool.specs.declared.Past.{Past}

-- neither a write nor an assembly
abbrev pub no_past : Past
no_past = record { written = false; assembled = false }

-- in service: a write was acknowledged, or a node's member set was taken over
abbrev pub in_service : Past → Bool
in_service p = p.written || p.assembled

-- a write ended, acknowledged or not
abbrev pub past_written : Past → Bool → Past
past_written p acknowledged = record { written = p.written || acknowledged; assembled = p.assembled }

-- a node's member set is taken over, if the membership is empty
abbrev pub past_taken_over : Past → Bool → Past
past_taken_over p empty = record { written = p.written; assembled = p.assembled || empty }

-- a member was taken out: it stands only while some is left
abbrev pub past_kept : Past → Bool → Past
past_kept p some = record { written = p.written && some; assembled = p.assembled && some }
