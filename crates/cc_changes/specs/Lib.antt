pub mod ChangeSets
pub mod Need
pub mod ChangeLaws
