-- The scan that makes an index: what its functions promise.
pub mod Enter
