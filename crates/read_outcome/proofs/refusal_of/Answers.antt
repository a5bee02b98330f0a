use mathlib.Core.List.{[], ◌∷◌}
use Rattle.read_outcome.proofs.refusal_of.Goals as goal

pub returns-in-LongLine : goal.returns-in-LongLine
returns-in-LongLine c =
    let e = c.placed.ensures in
    rw c.in-LongLine.is (e.0, λ i. e.1 i ∷ e.2 i ∷ [])

pub returns-in-BadByte : goal.returns-in-BadByte
returns-in-BadByte c =
    let e = c.placed-in-BadByte.ensures in
    rw c.in-BadByte.is (e.0, λ i. e.1 i ∷ e.2 i ∷ [])

pub returns-in-NotIonex : goal.returns-in-NotIonex
returns-in-NotIonex c =
    let e = c.placed-in-NotIonex.ensures in
    rw c.in-NotIonex.is (e.0, λ i. e.1 i ∷ e.2 i ∷ [])

pub returns-in-UnknownLabel : goal.returns-in-UnknownLabel
returns-in-UnknownLabel c =
    let e = c.placed-in-UnknownLabel.ensures in
    rw c.in-UnknownLabel.is (e.0, λ i. e.1 i ∷ e.2 i ∷ [])

pub returns-in-Misplaced : goal.returns-in-Misplaced
returns-in-Misplaced c =
    let e = c.placed-in-Misplaced.ensures in
    rw c.in-Misplaced.is (e.0, λ i. e.1 i ∷ e.2 i ∷ [])

pub returns-in-IllFormed : goal.returns-in-IllFormed
returns-in-IllFormed c =
    let e = c.placed-in-IllFormed.ensures in
    rw c.in-IllFormed.is (e.0, λ i. e.1 i ∷ e.2 i ∷ [])

pub returns-in-OutOfRange : goal.returns-in-OutOfRange
returns-in-OutOfRange c =
    let e = c.placed-in-OutOfRange.ensures in
    rw c.in-OutOfRange.is (e.0, λ i. e.1 i ∷ e.2 i ∷ [])

pub returns-in-Disagrees : goal.returns-in-Disagrees
returns-in-Disagrees c =
    let e = c.placed-in-Disagrees.ensures in
    rw c.in-Disagrees.is (e.0, λ i. e.1 i ∷ e.2 i ∷ [])

pub returns-in-Missing : goal.returns-in-Missing
returns-in-Missing c =
    let e = c.placed-in-Missing.ensures in
    rw c.in-Missing.is (e.0, λ i. e.1 i ∷ e.2 i ∷ [])

pub returns-in-EndsEarly : goal.returns-in-EndsEarly
returns-in-EndsEarly c =
    let e = c.placed-in-EndsEarly.ensures in
    rw c.in-EndsEarly.is (e.0, λ i. e.1 i ∷ e.2 i ∷ [])

pub returns-in-AreaTooShort : goal.returns-in-AreaTooShort
returns-in-AreaTooShort c =
    let e = c.placed-in-AreaTooShort.ensures in
    rw c.in-AreaTooShort.is (e.0, λ i. e.1 i ∷ e.2 i ∷ [])
