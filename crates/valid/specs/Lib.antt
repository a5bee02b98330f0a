-- What may be written, in the groups in which code looks at it.
pub mod Groups
pub mod Validity
