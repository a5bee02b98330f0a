-- Laws of answers: a test that passes or fails, and what holds of an answer that is accepted.
use mathlib.Core.Path.{◌≡◌, refl, ap}
use Rattle.kit.specs.Answer.{Answer, ok, refused, amap, need, bind, get, pick}
use mathlib.Core.Option.{Option, none, some}

module _ {W : Type 0} where
  pub amap_amap : {A B C : Type 0} (f : B → C) (g : A → B) (h : A → C) → ((a : A) → f (g a) ≡ h a) → (x : Answer W A) → amap f (amap g x) ≡ amap h x
  unfolding amap
  amap_amap f g h e (ok a) = ap ok (e a)
  amap_amap f g h e (refused w) = refl

  pub amap_same : {A : Type 0} (f : A → A) → ((a : A) → f a ≡ a) → (x : Answer W A) → amap f x ≡ x
  unfolding amap
  amap_same f e (ok a) = ap ok (e a)
  amap_same f e (refused w) = refl

module _ {W A : Type 0} where
  pub need_yes : {P : Type 0} (d : Dec P) (w : W) (x : Answer W A) → P → need d w x ≡ x
  unfolding need
  need_yes (yes p) w x q = refl
  need_yes (no n) w x q = absurd (n q)

  pub need_no : {P : Type 0} (d : Dec P) (w : W) (x : Answer W A) → ¬ P → need d w x ≡ refused w
  unfolding need
  need_no (yes p) w x q = absurd (q p)
  need_no (no n) w x q = refl

pub pick_yes {ℓ} : {P : Type 0} {X : Type ℓ} (d : Dec P) (x y : X) → P → pick d x y ≡ x
unfolding pick
pick_yes (yes p) x y q = refl
pick_yes (no n) x y q = absurd (n q)

pub pick_no {ℓ} : {P : Type 0} {X : Type ℓ} (d : Dec P) (x y : X) → ¬ P → pick d x y ≡ y
unfolding pick
pick_no (yes p) x y q = absurd (q p)
pick_no (no n) x y q = refl

pub pick_elim {ℓ} : {P : Type 0} {X : Type ℓ} (Q : X → Type 0) (d : Dec P) {x y : X} → (P → Q x) → (¬ P → Q y) → Q (pick d x y)
unfolding pick
pick_elim Q (yes p) f g = f p
pick_elim Q (no n) f g = g n

-- ---- `Yields Q a`: if a is accepted, Q holds of what it holds
pub data Yields {W A : Type 0} (Q : A → Type 0) : Answer W A → Type 0 where
  y_ok : {a : A} → Q a → Yields Q (ok a)
  y_no : {w : W} → Yields Q (refused w)

module _ {W A : Type 0} {Q : A → Type 0} where
  yielded : {a : A} → Yields {W = W} Q (ok a) → Q a
  yielded (y_ok q) = q

  pub yields : (o : Answer W A) {a : A} → Yields Q o → o ≡ ok a → Q a
  yields o y e = yielded (rw e at y)

  pub need_yields : {P : Type 0} (d : Dec P) (w : W) {x : Answer W A} → (P → Yields Q x) → Yields Q (need d w x)
  unfolding need
  need_yields (yes p) w f = f p
  need_yields (no n) w f = y_no

  pub get_yields : {B : Type 0} (o : Option B) (w : W) {f : B → Answer W A} → ((b : B) → o ≡ some b → Yields Q (f b)) → Yields Q (get o w f)
  unfolding get
  get_yields (some b) w h = h b refl
  get_yields none w h = y_no

  pub bind_yields : {B : Type 0} (o : Answer W B) {f : B → Answer W A} → ((b : B) → o ≡ ok b → Yields Q (f b)) → Yields Q (bind o f)
  unfolding bind
  bind_yields (ok b) h = h b refl
  bind_yields (refused w) h = y_no

  pub amap_yields : {B : Type 0} (g : B → A) {o : Answer W B} → Yields (λ b. Q (g b)) o → Yields Q (amap g o)
  unfolding amap
  amap_yields g (y_ok q) = y_ok q
  amap_yields g y_no = y_no

  pub pick_yields : {P : Type 0} (d : Dec P) {x y : Answer W A} → (P → Yields Q x) → (¬ P → Yields Q y) → Yields Q (pick d x y)
  unfolding pick
  pick_yields (yes p) f g = f p
  pick_yields (no n) f g = g n

pub yields_map : {W A : Type 0} {Q R : A → Type 0} {o : Answer W A} → ((a : A) → Q a → R a) → Yields Q o → Yields R o
yields_map f (y_ok q) = y_ok (f _ q)
yields_map f y_no = y_no
