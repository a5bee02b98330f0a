-- What the code finds of a block, by what `index` says stands there.
pub mod Hits
