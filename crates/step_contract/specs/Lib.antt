pub mod Ready
pub mod At
