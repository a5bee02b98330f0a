-- What crosses to other languages of the biases.
pub mod BiasesExported
