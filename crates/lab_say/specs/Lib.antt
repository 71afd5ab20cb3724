pub mod NodeLine
pub mod Row
pub mod Say
pub mod Text
