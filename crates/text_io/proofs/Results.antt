-- Lemmas on results.
use Rattle.std.proofs.Common.{◌≡◌, ℕ, Result, Ok, Err, IsErrAnd, ap, ◌∙◌, subst}
use Rattle.vol_types.specs.Faults.{CountsFaults}
use Rattle.text_io.specs.Memory.{CallCounts, CountsCall}

-- a result that is an error is the other one too, if they are the same
pub same_error : {T E : Type 0} (result : Result T E) (error other : E) → IsErrAnd result (λ e. e ≡ error) → error ≡ other → result ≡ Err other
same_error (Ok x) error other wrong same = absurd wrong
same_error (Err e) error other is same = ap (λ it. Err it) (is ∙ same)

-- a call that failed counts its faults whatever it would have given
pub failed_alike : {T U E : Type 0} {error other : E} {old new : ℕ} → CountsFaults {T = T} {E = E} (Err error) old new → CountsFaults {T = U} {E = E} (Err other) old new
failed_alike counts = record { later = counts.later; rose = counts.rose; still = counts.still }

-- so does one that didn't fail
pub done_alike : {T U E : Type 0} {value : T} {other : U} {old new : ℕ} → CountsFaults {T = T} {E = E} (Ok value) old new → CountsFaults {T = U} {E = E} (Ok other) old new
done_alike counts = record { later = counts.later; rose = counts.rose; still = counts.still }

-- a call that failed is counted whatever it would have given
pub failed_call_alike : {T U E : Type 0} {error other : E} {old new : CallCounts} → CountsCall {T = T} {E = E} (Err error) old new → CountsCall {T = U} {E = E} (Err other) old new
failed_call_alike call = record { failing = call.failing; most = call.most; made = call.made; failed = failed_alike call.failed }

-- a call that was begun is counted with the faults that come in it
pub counted_then : {T U E : Type 0} {value : T} (result : Result U E) (old mid new : CallCounts) → CountsCall {T = T} {E = E} (Ok value) old mid → new ≡ record mid { failed = new.failed } → CountsFaults result mid.failed new.failed → CountsCall result old new
counted_then result old mid new call is counts = record {
  failing = ap (λ (calls : CallCounts). calls.failing) is ∙ call.failing;
  most = ap (λ (calls : CallCounts). calls.most) is ∙ call.most;
  made = ap (λ (calls : CallCounts). calls.made) is ∙ call.made;
  failed = subst (λ (n : ℕ). CountsFaults result n new.failed) call.failed.still counts;
}
