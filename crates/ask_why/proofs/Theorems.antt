-- The theorems told of explaining.
pub use Rattle.ask_why.proofs.Once.{explain_once}
pub use Rattle.ask_why.proofs.Shown.{as_asked, needed_weight, needed_listed, listed_needed, nodes_exact, nodes_rise, weights_positive, weights_add, values_given, sum_is_answer, refused_shows_nothing, names_first_lacking, names_first}
pub use Rattle.ask_why.proofs.Sample.{sun_explained}
pub use Rattle.ask_why.proofs.CauseOrder.{causes_in_order, no_cause}
