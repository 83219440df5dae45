-- What a result of results says, handed on to what is to be said; and how a plan agrees with the forest.
use Rattle.std.proofs.Common.{◌≡◌, List, ap, subst}
use Rattle.std.specs.Prelude.{IfOk, Result, Ok, Err, is_ok}
use Rattle.std.proofs.lemmas.Bool.{false≢true}
use Rattle.dirent_keys.specs.Names.{IfDone}
use Rattle.dirent_keys.specs.declared.step.NameStep.{NameStep}
use Rattle.dirent_keys.specs.declared.step.NameStep.TheVariants as steps
use Rattle.forest_ops.specs.Refusals.{◌>>=◌, Agrees}
use Rattle.forest_ops.specs.declared.operation.Cause.{Cause}
use Rattle.name_plan.specs.NameSteps.{step_made}
use Rattle.path_plan.specs.Made.{IfMade}
use Rattle.vol_types.specs.declared.keys.Update.{Update}

-- What a result says of the updates that were made, where more is to be said of them,
pub carried_made : {E : Type 0} (result : Result (Result (List Update) Cause) E) (P Q : List Update → Type 0) → ((updates : List Update) → P updates → Q updates) → IfOk result (λ made. IfMade made P) → IfOk result (λ made. IfMade made Q)
carried_made (Ok (Ok updates)) P Q step holds = step updates holds
carried_made (Ok (Err cause)) P Q step holds = tt
carried_made (Err e) P Q step holds = tt

-- and what it says of all that was made, where both are to say it.
pub carried_with : {E : Type 0} (result : Result (Result (List Update) Cause) E) (P R : Result (List Update) Cause → Type 0) (T : List Update → Type 0) → ((made : Result (List Update) Cause) → P made → ((S : List Update → Type 0) → ((updates : List Update) → T updates → S updates) → IfMade made S) → R made)
    → IfOk result P → IfOk result (λ made. IfMade made T) → IfOk result R
carried_with (Ok (Ok updates)) P R T step one other = step (Ok updates) one (λ S follows. follows updates other)
carried_with (Ok (Err cause)) P R T step one other = step (Err cause) one (λ S follows. tt)
carried_with (Err e) P R T step one other = tt

-- What is said of a step that is done is said of the updates that it comes to.
pub made_has : (P : List Update → Type 0) (step : NameStep) (updates : List Update) → step_made step ≡ Ok updates → IfDone step P → P updates
made_has P (steps.Done done) updates is has = subst P (ap (updates_or updates) is) has
  where
    updates_or : List Update → Result (List Update) Cause → List Update
    updates_or other (Ok made) = made
    updates_or other (Err cause) = other
made_has P steps.Exists updates is has = absurd (false≢true (ap (λ (r : Result (List Update) Cause). is_ok r) is))
made_has P steps.Crowded updates is has = absurd (false≢true (ap (λ (r : Result (List Update) Cause). is_ok r) is))

-- Where updates and a forest's value agree if the updates have something, and what was made has it, they agree.
pub agrees_where : {B : Type 0} (T : List Update → Type 0) (Q : List Update → B → Type 0) (planned : Result (List Update) Cause) (forest : Result B Cause) → Agrees (λ updates next. T updates → Q updates next) planned forest → IfMade planned T → Agrees Q planned forest
agrees_where T Q (Ok updates) (Ok next) agrees has = agrees has
agrees_where T Q (Err cause) (Err other) agrees has = agrees
agrees_where T Q (Ok updates) (Err other) agrees has = agrees
agrees_where T Q (Err cause) (Ok next) agrees has = agrees

-- What agrees with a value that the forest then makes something of agrees with that.
pub agrees_at_end : {A B C : Type 0} (Q : A → C → Type 0) (end : B → C) (planned : Result A Cause) (forest : Result B Cause) → Agrees (λ x y. Q x (end y)) planned forest → Agrees Q planned (forest >>= (λ y. Ok (end y)))
agrees_at_end Q end (Ok x) (Ok y) agrees = agrees
agrees_at_end Q end (Err cause) (Err other) agrees = agrees
agrees_at_end Q end (Ok x) (Err other) agrees = agrees
agrees_at_end Q end (Err cause) (Ok y) agrees = agrees
