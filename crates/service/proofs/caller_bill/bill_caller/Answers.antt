use lib.ListN.{get_or}
use Rattle.service_spec.specs.Account.{number_place}
use native.Mathlib.Omega.{arith}
use Rattle.limits.proofs.BranchTests.{tests}
use Rattle.service_spec.specs.declared.rights.Right.TheVariants as Right
use Rattle.service_spec.proofs.AdmissionBranches.{admitted_caller}
use Rattle.service_spec.proofs.ReplyBranches.{number_goes_on, bill_missing, bill_failed, bill_counted}
use Rattle.service.proofs.caller_bill.bill_caller.Goals as goal

pub overflow_add-at : goal.overflow_add-at
overflow_add-at c = let a = c.args in omega (arith, admitted_caller Right.Bill a.service.now a.caller (search tests))

pub returns-then-service-at : goal.returns-then-service-at
returns-then-service-at c = bill_missing _ _ _ _ _ (search tests) (search tests)

pub returns-then-code-ne0 : goal.returns-then-code-ne0
returns-then-code-ne0 c =
    let a = c.args in
    bill_failed _ _ _ _ _ (search tests) (search tests) (get_or a.service.now (number_place a.caller) 0) _ _ (search tests)
    (search tests) (search tests)

pub overflow_add-service : goal.overflow_add-service
overflow_add-service c =
    let a = c.args in
    omega (
      arith,
      number_goes_on _ _ _ _ _ _ c.bill_into-code.ensures (search tests),
      c.slice_known-1.given (number_place a.caller),
    )

pub returns : goal.returns
returns c =
    let a = c.args in
    bill_counted _ _ _ _ _ (search tests) (search tests) (get_or a.service.now (number_place a.caller) 0) _ _ (search tests)
    c.bill_into-code.ensures (search tests)
