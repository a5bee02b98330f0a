pub mod GotLaws
