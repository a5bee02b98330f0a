-- An explanation as it crosses to other languages.
pub mod ExplainExported
