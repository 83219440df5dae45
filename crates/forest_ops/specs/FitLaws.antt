-- Laws on the fit of replies and histories.
use Rattle.std.proofs.Common.{◌≡◌, ℕ, zero, suc, cond, List, [], ◌∷◌, ◌++◌, take, slice_get, refl, ap, ◌∙◌, sym, subst, arith, All, Option, Some, None}
use Rattle.std.specs.Prelude.{is_none, IsSome}
use Rattle.std.specs.List.{AllZip, filter_map}
use Rattle.std.proofs.lemmas.List.{append-nil}
use Rattle.std.proofs.lemmas.List.Elements.{All-head, All-tail}
use Rattle.std.proofs.lemmas.Bool.{false≢true}
use Rattle.std.proofs.lemmas.Option.{none-some as none_some}
use Rattle.plain_forest.specs.Forest.{Forest}
use Rattle.forest_ops.specs.History.{History, commit_count}
use Rattle.forest_ops.specs.declared.operation.Op.{Op}
use Rattle.forest_ops.specs.declared.operation.Reply.{Reply}
use Rattle.forest_ops.specs.Acknowledged.{synced_count}
use Rattle.forest_ops.specs.Fits.{AcknowledgesAtLeast, AreOfPhase, Fits, IsOperation, LineReply, entry_of, joined, last_entry, phases_of, with_line}

one_more : (line : LineReply) (op : Option Op) → IsSome op → (lines : List LineReply) (phases : List (List LineReply)) → phases ≡ lines ∷ [] → cond (is_none op) ([] ∷ phases) (with_line line phases) ≡ (line ∷ lines) ∷ []
one_more line None some lines phases is = absurd (false≢true some)
one_more line (Some op) some lines phases is = ap (with_line line) is

-- Lines without a barrier are one phase.
pub one_phase : (lines : List LineReply) → All IsOperation lines → phases_of lines ≡ lines ∷ []
one_phase [] are = refl
one_phase (line ∷ lines) are = one_more line line.op (All-head IsOperation line lines are) lines (phases_of lines) (one_phase lines (All-tail IsOperation line lines are))

-- Nothing comes before the first phase, and there is no other.
nothing_before : (opening : Forest) (entries : History) (phase : ℕ) (part : History) → slice_get (entries ∷ []) phase ≡ Some part → All (AcknowledgesAtLeast (commit_count opening (joined (take phase (entries ∷ []))))) part
nothing_before opening entries zero part here = λ k d within count is. omega arith
nothing_before opening entries (suc phase) part here = absurd (none_some part here)

-- The replies of one phase fit the history of their entries in order, before that of a final sync of all commits.
pub one_phase_fit : (opening : Forest) (lines : List LineReply) (last : Reply) (history : History) → All IsOperation lines → history ≡ filter_map entry_of lines ++ last_entry last
    → ((count : ℕ) → synced_count last ≡ Some count → count ≡ commit_count opening history) → Fits opening lines last history
one_phase_fit opening lines last history are is final =
    let entries = filter_map entry_of lines in
    record {
      parts = entries ∷ [];
      whole = is ∙ ap (λ (es : History). es ++ last_entry last) (sym (append-nil entries));
      phases = subst (λ (phases : List (List LineReply)). AllZip AreOfPhase phases (entries ∷ [])) (sym (one_phase lines are)) ((λ client. refl), tt);
      syncs = nothing_before opening entries;
      final = final;
    }
