-- The theorem told of 01's figures.
pub use Rattle.figures.proofs.FiguresRight.{figures}
