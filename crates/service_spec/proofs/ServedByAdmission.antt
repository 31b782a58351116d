-- A call is served by its admission.
use mathlib.Core.Path.{◌≡◌, refl, ap, sym, ◌∙◌}
use mathlib.Core.Bool.{Bool, true, false, cond, ◌&&◌, and-false}
use mathlib.Core.List.{List}
use Prim.Native.Nat.{ℕ, ◌-◌}
use native.Mathlib.Omega.{arith}
use lib.Dec.{eqb}
use lib.ListN.{get_or, get_elem?}
use Rattle.service_spec.specs.Account.{holds, is_caller, number_place, admission}
use Rattle.service_spec.specs.Serving.{Call, Served, raised, serve_by}
use Rattle.service_spec.specs.Request.{Request, to_check, to_trim, to_bill, to_hand_over, to_replay, to_replay_across, Reply, right_for, is_bill, refused, answered, serve}
use Rattle.service_spec.specs.Promise.{Promise}
use Rattle.service_spec.proofs.AccountNumbers.{has_account, no_account}

refused_code : (a : ℕ) (q : Request) → (refused a q).code ≡ a
refused_code a (to_check image buffer) = refl
refused_code a (to_trim image buffer) = refl
refused_code a (to_bill image f room) = refl
refused_code a (to_hand_over old new table) = refl
refused_code a (to_replay image trace given table room) = refl
refused_code a (to_replay_across old new points first second given table room) = refl

module _ (s : List ℕ) (c : ℕ) (q : Request) where
  abbrev pub asked : Call Request
  asked = record { caller = c; request = q }

  abbrev pub turned_away : ℕ → Served Reply
  turned_away a = record { service = s; reply = refused a q }

  abbrev pub let_in : Served Reply
  let_in = record {
    service = cond (is_bill q && eqb (answered (get_elem? s (number_place c)) q).code 0) (raised s c) s;
    reply = answered (get_elem? s (number_place c)) q;
  }

  -- one who is no caller; a caller without the right; one with it
  served_unknown : is_caller c ≡ false → (admission (right_for q) s c ≡ 35) × (serve s asked ≡ turned_away 35)
  unfolding admission serve_by
  served_unknown h = (rw (no_account s c h), rw (no_account s c h))

  served_refused : is_caller c ≡ true → holds (right_for q) (get_or s (c - 1) 0) ≡ false
      → (admission (right_for q) s c ≡ 36) × (serve s asked ≡ turned_away 36)
  unfolding admission serve_by
  served_refused h e = (
    rw (has_account s c h, e),
    rw (has_account s c h, e)
        (ap (λ (b : Bool). record { service = cond b (raised s c) s; reply = refused 36 q }) none_counted),
  )
    where
      none_counted : (is_bill q && eqb (refused 36 q).code 0) ≡ false
      none_counted = rw (refused_code 36 q, and-false (is_bill q))

  served_admitted : is_caller c ≡ true → holds (right_for q) (get_or s (c - 1) 0) ≡ true
      → (admission (right_for q) s c ≡ 0) × (serve s asked ≡ let_in)
  unfolding admission serve_by
  served_admitted h e = (rw (has_account s c h, e), rw (has_account s c h, e))

  refused_so : (a : ℕ) → a ≡ admission (right_for q) s c → (a ≡ 0 → ⊥) → serve s asked ≡ turned_away a
  refused_so a e z = go (is_caller c) refl
    where
      same : (n : ℕ) → (admission (right_for q) s c ≡ n) × (serve s asked ≡ turned_away n) → serve s asked ≡ turned_away a
      same n p = p.1 ∙ ap turned_away (sym (e ∙ p.0))

      by_right : is_caller c ≡ true → (b : Bool) → holds (right_for q) (get_or s (c - 1) 0) ≡ b → serve s asked ≡ turned_away a
      by_right h true g = absurd (z (e ∙ (served_admitted h g).0))
      by_right h false g = same 36 (served_refused h g)

      go : (b : Bool) → is_caller c ≡ b → serve s asked ≡ turned_away a
      go true h = by_right h (holds (right_for q) (get_or s (c - 1) 0)) refl
      go false h = same 35 (served_unknown h)

  admitted_so : admission (right_for q) s c ≡ 0 → serve s asked ≡ let_in
  admitted_so e = go (is_caller c) refl
    where
      by_right : is_caller c ≡ true → (b : Bool) → holds (right_for q) (get_or s (c - 1) 0) ≡ b → serve s asked ≡ let_in
      by_right h true g = (served_admitted h g).1
      by_right h false g = let x = (served_refused h g).0 in absurd (omega arith)

      go : (b : Bool) → is_caller c ≡ b → serve s asked ≡ let_in
      go true h = by_right h (holds (right_for q) (get_or s (c - 1) 0)) refl
      go false h = let x = (served_unknown h).0 in absurd (omega arith)

  pub promise_refused : (Own : Type 0) (a : ℕ) → a ≡ admission (right_for q) s c → (a ≡ 0 → ⊥) → Promise s c q s (refused a q) Own
  promise_refused Own a e z = record {
    kept = ap (λ (x : Served Reply). x.service) (sym (refused_so a e z));
    replies = ap (λ (x : Served Reply). x.reply) (sym (refused_so a e z));
    own = λ h. absurd (z (e ∙ h));
  }

  pub promise_admitted : (Own : Type 0) (after : List ℕ) (reply : Reply) → admission (right_for q) s c ≡ 0 → after ≡ let_in.service
      → reply ≡ let_in.reply → Own
      → Promise s c q after reply Own
  promise_admitted Own after reply e k r o = record {
    kept = k ∙ ap (λ (x : Served Reply). x.service) (sym (admitted_so e));
    replies = r ∙ ap (λ (x : Served Reply). x.reply) (sym (admitted_so e));
    own = λ h. o;
  }
