-- What a sound walk over kinds has found.
use mathlib.Core.Path.{◌≡◌, refl, ap}
use mathlib.Core.Bool.{Bool, true, false, cond}
use mathlib.Core.List.{List, [], ◌∷◌}
use Prim.Native.Nat.{ℕ, ◌+◌, ◌≤◌}
use lib.Dec.{ltb}
use lib.ListN.{get_or}
use borrow.Author.Tests.{ltb-false}
use Rattle.image_frames.specs.Kinds as Kinds
use Rattle.image_frames.specs.Kinds.{order}
use Rattle.image_frames.specs.Frames.{counted, ended, refused, sound}
use Rattle.image_frames.specs.declared.fault.Fault.TheVariants.{Kind}
use Rattle.image_frames.specs.declared.frame.Seen.{Seen}
use Rattle.image_frames.proofs.PassedFrame.{Admitted}
use Rattle.image_frames.proofs.KindCounts.{counts_of, refused_sound}
use Rattle.trim_spec.proofs.WalkByKind.{walk_kinds, next_kind}

-- each of the kinds is admitted, and the image may end behind them
abbrev pub Passes : Seen → List ℕ → Type 0
Passes c [] = Kinds.obligations ≤ c.last
Passes c (k ∷ ks) = Admitted c (order k) × Passes (counted c (order k)) ks

-- what was seen behind them
abbrev pub final : Seen → List ℕ → Seen
final c [] = c
final c (k ∷ ks) = final (counted c (order k)) ks

pub record Passing (c : Seen) (ks : List ℕ) (a b n m : ℕ) : Type 0 where
  pub passes : Passes c ks
  pub formulas : get_or (final c ks).count Kinds.formula 0 ≡ a
  pub threads : get_or (final c ks).count Kinds.thread 0 ≡ b
  pub lines : get_or (final c ks).count Kinds.line 0 ≡ n
  pub claims : get_or (final c ks).count Kinds.last 0 ≡ m

ended_passing : (i : ℕ) (c : Seen) (a b n m : ℕ) → ended i c ≡ sound a b n m → Passing c [] a b n m
unfolding ended counts_of
ended_passing i c a b n m = go (ltb c.last Kinds.obligations) refl
  where
    go : (p : Bool) → ltb c.last Kinds.obligations ≡ p
        → cond p (refused Kind i)
        (sound (get_or c.count Kinds.formula 0) (get_or c.count Kinds.thread 0)
        (get_or c.count Kinds.line 0) (get_or c.count Kinds.last 0))
        ≡ sound a b n m → Passing c [] a b n m
    go true d e = refused_sound Kind i a b n m e
    go false d e = record {
      passes = ltb-false c.last Kinds.obligations d;
      formulas = ap (λ r. (counts_of r).formulas) e;
      threads = ap (λ r. (counts_of r).threads) e;
      lines = ap (λ r. (counts_of r).lines) e;
      claims = ap (λ r. (counts_of r).claims) e;
    }

pub passing : (i : ℕ) (c : Seen) (ks : List ℕ) (a b n m : ℕ) → walk_kinds i c ks ≡ sound a b n m → Passing c ks a b n m
unfolding walk_kinds
passing i c [] a b n m e = ended_passing i c a b n m e
passing i c (k ∷ ks) a b n m e =
    let q = next_kind i c k ks a b n m e in
    let r = passing (i + 1) (counted c (order k)) ks a b n m q.rest in
    record { passes = (q.admits, r.passes); formulas = r.formulas; threads = r.threads; lines = r.lines; claims = r.claims }
