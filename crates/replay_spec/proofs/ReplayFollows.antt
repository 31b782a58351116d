-- A replay of an accepted image, whose start writes fit, is the logic's; and what its outline says is true in the state reached.
use mathlib.Core.Path.{◌≡◌, refl, ap, sym, ◌∙◌, subst}
use mathlib.Core.List.{List, []}
use Prim.Native.Nat.{ℕ, ◌≤◌}
use native.Mathlib.Omega.{arith}
use lib.ListN.{get_or, take}
use borrow.Author.Tests.{le-ltb}
use Rattle.std.specs.declared.option.Option.TheVariants.{Some}
use Rattle.semantics.specs.Machine.{State, run}
use Rattle.semantics.specs.EveryRun.{Holds, EveryRun}
use Rattle.semantics.proofs.Starts.{begins}
use Rattle.limits.specs.Numbers.{nth}
use Rattle.image_frames.specs.Records.{bodies}
use Rattle.image_header.specs.declared.sizes.Sizes.{Sizes}
use Rattle.logic_outline.specs.Verdict.{Image}
use Rattle.image_meaning.specs.Image.{read, image_of}
use Rattle.image_meaning.specs.Program.{program_of, outline_of}
use Rattle.image_meaning.proofs.RecordsChecked.{Checks, sound_checks}
use Rattle.image_meaning.proofs.WellFormedProgram.{range_two}
use Rattle.checker_spec.specs.Acceptance.{acceptance}
use Rattle.checker_spec.specs.Promise.{TrueInEveryRun}
use Rattle.checker_spec.proofs.AcceptedHolds.{granted_holds}
use Rattle.checker_spec.proofs.AcceptedRuns.{accepted_runs}
use Rattle.replay_machine.specs.Start.{started}
use Rattle.replay_machine.specs.Run.{ran}
use Rattle.replay_spec.specs.MachineReplay.{steps_in}
use Rattle.replay_machine.specs.Replayed.{replay_on}
use Rattle.replay_spec.specs.Follows.{outcome, first, Follows}
use Rattle.replay_spec.proofs.StepFollows.{Ready, range_is}
use Rattle.replay_spec.proofs.RunFollows.{Reached, reached, follows}
use Rattle.replay_spec.proofs.StartStands.{begun}

same_content : (D E : Image) → read D ≡ read E → D ≡ E
same_content D E e = cc

-- demand 3, of what the image says
pub every : (s : List ℕ) (z : Sizes) → acceptance s ≡ Some z → EveryRun (program_of z (bodies s)) (outline_of z (bodies s))
every s z e =
    let g = granted_holds s z e in
    let t : TrueInEveryRun s = accepted_runs s g.count g.verdict in
    subst (λ (D : Image). EveryRun D.program D.outline) (same_content t.content (image_of z (bodies s)) (sym t.says ∙ g.says))
    t.holds

pub follows_run : (s : List ℕ) (z : Sizes) (trace given : List ℕ) (room : ℕ) → acceptance s ≡ Some z → room ≤ 64 → z.words ≤ room
    → Follows s z trace given room (replay_on s z trace given room)
unfolding replay_on
follows_run s z trace given room e few fits =
    let c : Checks z (bodies s) = sound_checks s z (granted_holds s z e).sound in
    let f : State = first s z trace given room in
    let m = follows s z c room few f (started (get_or (bodies s) 0 []) z.range given)
    (subst (λ (R : ℕ). Ready s z c f (started (get_or (bodies s) 0 []) R given)) (sym (range_is s z c)) (begun s z c given)) 0 trace in
    let q : Reached (program_of z (bodies s)) f 0 trace (outcome s z trace given room) = reached (program_of z (bodies s)) room f 0 trace in
    let n : q.taken ≡ (ran s z room (started (get_or (bodies s) 0 []) z.range given) 0 trace).steps
    = omega (arith, q.counted, m.steps) in
    rw (le-ltb room z.words fits) (record {
      code = m.code;
      steps = m.steps;
      held = refl;
      stands = m.ready.stands;
      state = q.state ∙ ap (λ (j : ℕ). run (program_of z (bodies s)) f (take j (steps_in trace))) n;
      holds = subst (Holds (program_of z (bodies s)) (outline_of z (bodies s))) (sym q.state)
          ((every s z e).holds f (begins (program_of z (bodies s)) (omega (arith, range_two z (bodies s) c)) (λ r. nth given r 0))
          (take q.taken (steps_in trace)));
    })
