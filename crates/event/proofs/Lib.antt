pub mod ClientCalled
pub mod NodeCalled
