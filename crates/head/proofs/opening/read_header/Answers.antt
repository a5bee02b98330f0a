use mathlib.Core.Path.{◌≡◌}
use Prim.Native.Nat.{◌+◌}
use borrow.Author.Rules.{rules}
use Rattle.std.proofs.lemmas.Result.{err_from_is_err_and}
use Rattle.reading.specs.declared.Fault.{Fault}
use Rattle.reading.specs.declared.Why.{Why}
use Rattle.reading.specs.Feed.{why}
use Rattle.mapset.specs.declared.Version.{Version}
use Rattle.head.proofs.OpenedLaws.{first_over, first_bad, first_no, first_versioned, continues, mapped_ok, mapped_err}
use Rattle.head.proofs.opening.read_header.Goals as goal

pub returns-in-Over : goal.returns-in-Over
returns-in-Over c = rw c.ended_after.ensures (first_over c.args.text.now c.in-Over.n c.in-Over.ensures.on c.args.lines.now)

pub returns-in-Bad : goal.returns-in-Bad
returns-in-Bad c = first_bad c.args.text.now c.in-Bad.why c.in-Bad.ensures c.args.lines.now

pub returns-in_ok-version-in-Row : goal.returns-in_ok-version-in-Row
returns-in_ok-version-in-Row c =
    let is = mapped_ok {T = Version} {E = Fault} {D = Why} _ c.version_of.result c.map_err.result c.map_err.ensures.cases c.in_ok-version-in-Row.was in
    continues _ _ c.args.text.now c.header_from.result _ (first_versioned c.args.text.now _ _ _ _ c.in-Row.ensures c.version_of.result c.version_of.ensures _ is) c.header_from.ensures

pub returns-in_err-version-in-Row : goal.returns-in_err-version-in-Row
returns-in_err-version-in-Row c =
    let (f, is, p) = mapped_err {T = Version} {E = Fault} {D = Why} _ c.version_of.result c.map_err.result c.map_err.ensures.cases c.in_err-version-in-Row.was in
    let w : c.in_err-version-in-Row.field-0.0 ≡ why f.number (c.in-Row.n + 1) f.column = search rules in
    let r = err_from_is_err_and c.from_residual.result c.from_residual.ensures.1 in
    rw (r.1, r.2, w) (first_no c.args.text.now _ _ _ c.in-Row.n c.in-Row.ensures c.version_of.result c.version_of.ensures f is c.args.lines.now)
