-- A formula that stays is the same formula under its new number, and passes the same tests there.
use mathlib.Core.Path.{◌≡◌, refl, sym, ◌∙◌}
use mathlib.Core.Bool.{Bool, true, false}
use mathlib.Core.List.{List, []}
use Prim.Native.Nat.{ℕ, zero, suc, ◌≤◌}
use native.Mathlib.Omega.{arith}
use lib.Dec.{eqb}
use lib.ListN.{length, get_or}
use borrow.Author.Tests.{ne_eqb, le-leb}
use Rattle.limits.specs.Numbers.{within}
use Rattle.image_bodies.specs.declared.line.Form.{Form}
use Rattle.image_bodies.specs.declared.line.Form.TheVariants.{Triple, Implication, Inclusion, Pair, Unlisted}
use Rattle.image.specs.Decode.{sizes_of}
use Rattle.image_bodies.specs.ThreadBody.{formula_sorted, register_owned, formula_owned}
use Rattle.image_bodies.specs.ListBody.{outlined_at}
use Rattle.image_bodies.specs.LineBody.{sort_at, sorted_by}
use Rattle.trim_spec.specs.Document.{Document}
use Rattle.trim_spec.specs.Encode.{bodies_of}
use Rattle.trim_spec.specs.Parse.{sizes}
use Rattle.trim_spec.proofs.BodyPlaces.{header_at, formula-at}
use Rattle.trim_spec.specs.Live.{renumbered}
use Rattle.trim_spec.specs.Trim.{trimmed_by}
use Rattle.trim_spec.proofs.Closed.{Stays}
use Rattle.trim_spec.proofs.MarkCounts.{renumbered_0, renumbered_low, renumbered_high, selected_nth}
use Rattle.trim_spec.proofs.TrimPremises.{Trimming, threads_kept}

module _ {u k : List Bool} {D : Document} (T : Trimming u k D) where
  abbrev E : Document
  E = trimmed_by u k D

  abbrev f : ℕ → ℕ
  f = renumbered u

  -- the header has no numbers of formulas
  pub header_kept : get_or (bodies_of E) 0 [] ≡ get_or (bodies_of D) 0 []
  header_kept = header_at E (threads_kept T) ∙ sym (header_at D T.threads)

  -- a formula that is there, or none; and it stays
  abbrev pub Named : ℕ → Type 0
  Named n = Stays u n × (n ≤ length D.formulas)

  module _ (n : ℕ) (h : Stays u n) (low : 1 ≤ n) (high : n ≤ length D.formulas) where
    marked : get_or u n false ≡ true
    marked = h (omega arith)

    pub formula_low : 1 ≤ f n
    formula_low = renumbered_low u n low marked

    pub formula_high : f n ≤ length E.formulas
    formula_high = renumbered_high u D.formulas n high

    pub formula_within : within 1 (sizes E).formulas (f n) ≡ true
    unfolding within sizes sizes_of
    formula_within = rw (le-leb 1 (f n) formula_low, le-leb (f n) (length E.formulas) formula_high)

    same_body : get_or (bodies_of E) (f n) [] ≡ get_or (bodies_of D) n []
    same_body =
        formula-at E (threads_kept T) (f n) formula_low formula_high
        ∙ (selected_nth u D.formulas [] n low high marked ∙ sym (formula-at D T.threads n low high))

  pub formula_kept : (n : ℕ) → Named n → get_or (bodies_of E) (f n) [] ≡ get_or (bodies_of D) n []
  formula_kept zero h = rw (renumbered_0 u) header_kept
  formula_kept (suc n) h = same_body (suc n) h.0 (omega arith) h.1

  -- none stays none
  pub none_kept : (n : ℕ) → Named n → eqb (f n) 0 ≡ eqb n 0
  none_kept zero h = rw (renumbered_0 u)
  none_kept (suc n) h =
      let a = formula_low (suc n) h.0 (omega arith) h.1 in
      let p : f (suc n) ≡ 0 → ⊥ = omega arith in
      let q : suc n ≡ 0 → ⊥ = omega arith in
      rw (ne_eqb (f (suc n)) 0 p, ne_eqb (suc n) 0 q)

  -- tests of a formula, by its number

  module _ (n : ℕ) (h : Named n) where
    pub formula_sorted_kept : (s : ℕ) → formula_sorted (bodies_of E) s (f n) ≡ formula_sorted (bodies_of D) s n
    unfolding formula_sorted
    formula_sorted_kept s = rw (none_kept n h, formula_kept n h)

    pub formula_owned_kept : (t : ℕ) → formula_owned (bodies_of E) t (f n) ≡ formula_owned (bodies_of D) t n
    unfolding formula_owned
    formula_owned_kept t = rw (none_kept n h, formula_kept n h, header_kept)

    pub outlined_kept : outlined_at (bodies_of E) (f n) ≡ outlined_at (bodies_of D) n
    unfolding outlined_at
    outlined_kept = rw (formula_kept n h)

    pub sorted_by_kept : (o : Form) → sorted_by (bodies_of E) o (f n) ≡ sorted_by (bodies_of D) o n
    unfolding sorted_by sort_at
    sorted_by_kept Triple = outlined_kept
    sorted_by_kept Implication = rw (formula_kept n h)
    sorted_by_kept Inclusion = rw (formula_kept n h)
    sorted_by_kept Pair = outlined_kept
    sorted_by_kept Unlisted = refl

  pub register_owned_kept : (t r : ℕ) → register_owned (bodies_of E) t r ≡ register_owned (bodies_of D) t r
  unfolding register_owned
  register_owned_kept t r = rw header_kept
