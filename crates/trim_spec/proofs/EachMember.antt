-- What holds of each member of a list, by its place.
use mathlib.Core.Path.{◌≡◌, refl}
use mathlib.Core.List.{List, [], ◌∷◌, ◌++◌, map}
use Prim.Native.Nat.{ℕ, zero, suc, ◌+◌, ◌<◌}
use native.Mathlib.Omega.{arith}
use lib.ListN.{get_or, take, drop, length-take}
use lib.Seq.{get_or-take, get_or-drop}
use Rattle.logic.specs.Obligations.{flat}
use Rattle.trim_spec.specs.Canonical.{Each}

module _ {A : Type 0} (F : A → Type 0) (d : A) where
  pub each_nil : Each F d []
  each_nil i b = absurd (omega arith)

  pub each_cons : (x : A) (l : List A) → F x → Each F d l → Each F d (x ∷ l)
  each_cons x l h g zero b = h
  each_cons x l h g (suc i) b = g i (omega arith)

  pub each_tail : (x : A) (l : List A) → Each F d (x ∷ l) → Each F d l
  each_tail x l h i b = h (suc i) (omega arith)

  pub each_append : (l m : List A) → Each F d l → Each F d m → Each F d (l ++ m)
  each_append [] m h g = g
  each_append (x ∷ l) m h g = each_cons x (l ++ m) (h 0 (omega arith)) (each_append l m (each_tail x l h) g)

  pub each_take : (n : ℕ) (l : List A) → Each F d l → Each F d (take n l)
  each_take n l h i b = let q : i < n = omega (arith, length-take n l) in rw (get_or-take n l i d q) (h i (omega (arith, length-take n l)))

  pub each_drop : (n : ℕ) (l : List A) → Each F d l → Each F d (drop n l)
  each_drop zero l h = h
  each_drop (suc n) [] h = h
  each_drop (suc n) (x ∷ l) h = each_drop n l (each_tail x l h)

  -- where it holds of the default too, any place will do
  pub each_any : (l : List A) → F d → Each F d l → (i : ℕ) → F (get_or l i d)
  each_any [] e h i = e
  each_any (x ∷ l) e h zero = h 0 (omega arith)
  each_any (x ∷ l) e h (suc i) = each_any l e (each_tail x l h) i

-- members that are made from other members
module _ {A B : Type 0} (F : A → Type 0) (d : A) (G : B → Type 0) (e : B) where
  pub each_map : (f : B → A) → ((x : B) → G x → F (f x)) → (l : List B) → Each G e l → Each F d (map f l)
  each_map f h [] g = each_nil F d
  each_map f h (x ∷ l) g = each_cons F d (f x) (map f l) (h x (g 0 (omega arith))) (each_map f h l (each_tail G e x l g))

  pub each_flat : (f : B → List A) → ((x : B) → G x → Each F d (f x)) → (l : List B) → Each G e l → Each F d (flat f l)
  each_flat f h [] g = each_nil F d
  each_flat f h (x ∷ l) g = each_append F d (f x) (flat f l) (h x (g 0 (omega arith))) (each_flat f h l (each_tail G e x l g))

-- what is made from each member gives it back
pub map_back : {A B : Type 0} (F : A → Type 0) (d : A) (f : A → B) (g : B → A) → ((x : A) → F x → g (f x) ≡ x)
    → (l : List A) → Each F d l → map g (map f l) ≡ l
map_back F d f g h [] e = refl
map_back F d f g h (x ∷ l) e = rw (h x (e 0 (omega arith)), map_back F d f g h l (each_tail F d x l e))

-- n members from place i on
pub part_each : {A : Type 0} (F : A → Type 0) (d : A) (i n : ℕ) (l : List A) → ((k : ℕ) → k < n → F (get_or l (i + k) d))
    → Each F d (take n (drop i l))
part_each F d i n l h k b =
    let s : k < n = omega (arith, length-take n (drop i l)) in
    rw (get_or-take n (drop i l) k d s, get_or-drop i l k d) (h k s)
