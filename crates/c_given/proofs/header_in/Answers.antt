use Rattle.c_given.specs.Given.{header_of}
use Rattle.c_given.proofs.header_in.Goals as goal

pub returns : goal.returns
unfolding header_of
returns c = λ i. record { version = c.version_in.ensures i; times = c.times_in.ensures i; model = c.model_in.ensures i; grid = c.grid_in.ensures i; stations = c.counted_in.ensures i; satellites = c.counted_in-2.ensures i; systems = c.systems_in.ensures i; descriptions = c.count_at.ensures i }
