-- What a record of the maps does.
pub mod Steps
