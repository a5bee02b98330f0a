-- The theorems told of a place in the grid.
pub use Rattle.ask_cells.proofs.EarthLaws.{inside_exactly, strip_right, plain_right, meridian, meridian_turned, round_inside}
