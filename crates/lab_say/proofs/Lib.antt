pub mod NodeLineFits
pub mod NodeLineLaws
pub mod RecordLineFits
pub mod RowLineFits
pub mod RowLineLaws
pub mod SayLaws
