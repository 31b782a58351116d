-- THE PROMISE of each call to a service: it is `serve`, and, for a caller with the right, what the call without a service promises.
use Rattle.std.specs.Prelude.{◌≡◌, List, [], ◌∷◌, ℕ}
use Rattle.std.proofs.Math.Option.{some}
use Rattle.std.proofs.Math.ListN.{get_elem?}
use Rattle.checker_spec.specs.Promise as Checked
use Rattle.trim.specs.Promise as Trimmed
use Rattle.bill_spec.specs.Promise as Billed
use Rattle.handover_spec.specs.Promise as HandedOver
use Rattle.replay_spec.specs.Promise as Replayed
use Rattle.handover_replay.specs.Promise as ReplayedAcross
use Rattle.bill_spec.specs.declared.tariff.Tariff.{Tariff}
use Rattle.service_spec.specs.Account.{number_place, admission}
use Rattle.service_spec.specs.Request.{Request, to_check, to_trim, to_bill, to_hand_over, to_replay, to_replay_across, Reply, replied, right_for, serve}

-- what a call does: the service afterwards, the reply, and Own, which holds if the caller has the right
pub record Promise (service : List ℕ) (caller : ℕ) (q : Request) (after : List ℕ) (reply : Reply) (Own : Type 0) : Type 0 where
  pub kept : after ≡ (serve service (record { caller = caller; request = q })).service
  pub replies : reply ≡ (serve service (record { caller = caller; request = q })).reply
  pub own : admission (right_for q) service caller ≡ 0 → Own

module _ (service : List ℕ) (caller : ℕ) (image : List ℕ) where
  -- the promise of `serve_check`
  abbrev pub CheckServed : List ℕ → ℕ → List ℕ → Type 0
  CheckServed buffer code after =
      Promise service caller (to_check image buffer) service (replied code after []) (Checked.Promise image buffer code after)

  -- the promise of `serve_trim`
  abbrev pub TrimServed : List ℕ → ℕ → ℕ → List ℕ → Type 0
  TrimServed buffer code written after =
      Promise service caller (to_trim image buffer) service (replied code after (written ∷ []))
      (Trimmed.Promise image buffer code written after)

  -- the promise of `serve_bill`; `left` is the service afterwards
  abbrev pub BillServed : Tariff → List ℕ → List ℕ → ℕ → List ℕ → Type 0
  BillServed f room left code after = Promise service caller (to_bill image f room) left (replied code [] after)
      ((n : ℕ) → get_elem? service (number_place caller) ≡ some n → Billed.Written image f n room code after)

  -- the promise of `serve_handover`
  abbrev pub HandoverServed : List ℕ → List ℕ → ℕ → Type 0
  HandoverServed new table code =
      Promise service caller (to_hand_over image new table) service (replied code [] []) (HandedOver.Promise image new table code)

  -- the promise of `serve_replay`
  abbrev pub ReplayServed : List ℕ → List ℕ → List ℕ → List ℕ → ℕ → List ℕ → List ℕ → Type 0
  ReplayServed trace given table room code after told = Promise service caller (to_replay image trace given table room) service
      (replied code after told)
      (Replayed.Written image trace given table room code after told)

  -- the promise of `serve_replay_handover`
  abbrev pub AcrossServed : List ℕ → List ℕ → List ℕ → List ℕ → List ℕ → List ℕ → List ℕ → ℕ → List ℕ → List ℕ → Type 0
  AcrossServed new points first second given table room code after told =
      Promise service caller (to_replay_across image new points first second given table room) service (replied code after told)
      (ReplayedAcross.Written image new points first second given table room code after told)
