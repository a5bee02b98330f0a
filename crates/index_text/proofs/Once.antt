-- `make_index` has no second answer, refuses a text as the reader does, and what it leaves answers each node as the full reading has it.
use mathlib.Core.Path.{◌≡◌, sym, ap, subst, ◌∙◌}
use mathlib.Core.Option.{Option, none, some}
use mathlib.Core.List.{List}
use Prim.Native.Nat.{ℕ, ◌-◌, ◌<◌}
use lib.ListN.{get_or}
use Rattle.std.specs.Prelude.{Ok}
use Rattle.kit.specs.Answer.{refused}
use Rattle.kit.proofs.TruthLaws.{clash}
use Rattle.mapset.specs.declared.Header.{Header}
use Rattle.mapset.specs.MapSet.{MapSet}
use Rattle.mapset.specs.Areas.{Areas, Present}
use Rattle.layout.specs.Layout.{Makes}
use Rattle.reading.specs.declared.Why.{Why}
use Rattle.reading.specs.Read.{read}
use Rattle.reading.proofs.Exact.{read_made}
use Rattle.areas.specs.Flat.{areas}
use Rattle.ask_nodes.specs.Value.{kind_of}
use Rattle.read_needs.specs.Needs.{first_short}
use Rattle.read_outcome.specs.Outcome.{accepted, outcome_of, outcome, told, texts_in}
use Rattle.read_outcome.specs.declared.ReadOut.{ReadOut}
use Rattle.read_outcome.proofs.Once.{told_once, texts_once}
use Rattle.index.specs.Index.{Entries, index, Node, Inside, number_in, exponent_in, Reply, given, Replies}
use Rattle.index.specs.Made.{entries_of, fronts}
use Rattle.index.proofs.Once.{reply_once}
use Rattle.index.specs.AsRead.{AsRead}
use Rattle.index.proofs.AsRead.{indexed_as_read}
use Rattle.index_text.specs.Making.{needed_and_lent, with_room, made_of, made, comes}
pub use Rattle.index_text.specs.Making.{Indexes}

pub index_once : (t : List ℕ) (l : Entries) (r s : ReadOut) (l' l'' : Entries) → Indexes t l r l' → Indexes t l s l'' → (r ≡ s) × (l' ≡ l'')
index_once t l r s l' l'' p q =
    let e = p ∙ sym q in
    let a : r.answer ≡ s.answer = told_once r.answer s.answer (ap (λ o. o.told) e) in
    let x = texts_once r s (ap (λ o. o.texts) e) in
    (λ i. record { answer = a i; texts = x.0 i; descriptions = x.1 i }, ap (λ o. o.entries) e)

-- number, line and column, whatever areas are lent
pub refused_as_read : (t : List ℕ) (l : Entries) (a : Areas) (w : Why) → read t ≡ refused w → (made t l).told ≡ (outcome t a).told
unfolding made_of outcome_of
refused_as_read t l a w e = ap (λ r. (made_of r t l).told) e ∙ sym (ap (λ r. (outcome_of r a).told) e)

-- an index that is accepted: header record, texts and lists of the map set
pub record Given (m : MapSet) (t : List ℕ) (l : Entries) (h : Header) (r : ReadOut) (l' : Entries) : Type 0 where
  pub header : h ≡ m.header
  pub texts : texts_in r ≡ m.texts
  pub entries : l' ≡ fronts (entries_of m t) l

module _ (t : List ℕ) (l : Entries) (r : ReadOut) (l' : Entries) (c : Indexes t l r l') (m : MapSet) (k : Makes m t) (h : Header) (a : r.answer ≡ Ok h) where
  given_index : Given m t l h r l'
  unfolding made_of with_room
  given_index = by (first_short 1 (needed_and_lent (entries_of m t) l)) (c ∙ ap (λ x. made_of x t l) (read_made k))
    where
      by : (o : Option (ℕ × ℕ)) → comes r l' ≡ with_room m t l o → Given m t l h r l'
      by none e = record { header = (let z : accepted h ≡ accepted m.header = ap told (sym a) ∙ ap (λ o. o.told) e in cc); texts = ap (λ o. o.texts) e; entries = ap (λ o. o.entries) e }
      by (some s) e = clash (let z : accepted h ≡ _ = ap told (sym a) ∙ ap (λ o. o.told) e in cc)

  -- a node of a map that is there
  module _ (q : Node) (known : q.kind < 3) (i : Inside h q) (p : Present (kind_of q.kind) (get_or (areas m).marks (q.map - 1) 0)) where
    pub made_as_read : AsRead m t (index h (texts_in r) l') q
    made_as_read =
        let g = given_index in
        subst (λ x. AsRead m t (index x (texts_in r) l') q) (sym g.header)
        (subst (λ x. AsRead m t (index m.header x l') q) (sym g.texts)
        (subst (λ x. AsRead m t (index m.header m.texts x) q) (sym g.entries) (indexed_as_read k l q known (subst (λ x. Inside x q) g.header i) p)))

    pub node_as_read : (b : Reply) → Replies (index h (texts_in r) l') t q b → b ≡ given (number_in m.header (areas m) q) (exponent_in m.header (areas m) q) made_as_read.lines
    node_as_read b s = reply_once (index h (texts_in r) l') t q b _ s made_as_read.replies
