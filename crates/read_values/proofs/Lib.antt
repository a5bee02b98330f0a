pub mod ValueLaws
pub mod QuickRows
pub mod BareRows
