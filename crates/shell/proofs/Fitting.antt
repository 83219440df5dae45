-- The replies of a run fit its history, phase by phase, where each sync acknowledges all commits before it.
use Rattle.std.proofs.Common.{◌≡◌, ℕ, zero, suc, ◌≤◌, Bool, true, false, cond, List, [], ◌∷◌, ◌++◌, length, map, take, slice_get, Option, Some, None, refl, ap, ◌∙◌, sym, subst, arith, append_assoc, append-nil, All}
use Rattle.std.specs.Prelude.{is_none}
use Rattle.std.specs.List.{AllZip, cons_option, filter_map}
use Rattle.std.proofs.Math.Seq.{take-append_seam}
use Rattle.std.proofs.lemmas.List.Elements.{All-cons, All-nil}
use Rattle.std.proofs.lemmas.Option.{same_Some, none-some as none_some}
use Rattle.plain_forest.specs.Forest.{Forest}
use Rattle.forest_ops.specs.History.{History, after_entry, commits_of, commit_count, is_commit}
use Rattle.forest_ops.specs.HistoryLaws.{commits_of-push}
use Rattle.forest_ops.specs.declared.operation.Op.{Op}
use Rattle.forest_ops.specs.declared.operation.Op.TheVariants.{Sync}
use Rattle.forest_ops.specs.declared.operation.Reply.{Reply}
use Rattle.forest_ops.specs.declared.operation.Reply.TheVariants.{Okay, More, Synced, Content, List as Listed, File, Dir, SubNames, Used, Refused, NoSpace, DeviceFault, DataLost, Halted, Spent, NoMemory}
use Rattle.forest_ops.specs.declared.operation.Entry.{Entry}
use Rattle.forest_ops.specs.Acknowledged.{synced_count}
use Rattle.forest_ops.specs.Fits.{AcknowledgesAtLeast, AreOfPhase, Fits, LineReply, entry_by, entry_of, joined, last_entry, phases_of, with_line}
use Rattle.shell.specs.Outcome.{Answered, entries_of, entry_of as answered_entry, line_reply}
use Rattle.shell.specs.Phases.{AreSyncsCounted}

-- the entries of a phase
abbrev part_of : List LineReply → History
part_of lines = filter_map entry_of lines

cons_append : (entry : Option Entry) (first second : History) → cons_option entry (first ++ second) ≡ cons_option entry first ++ second
cons_append None first second = refl
cons_append (Some entry) first second = refl

-- a line goes before the entries of the first phase
joined_line : (line : LineReply) (phases : List (List LineReply)) → cons_option (entry_of line) (joined (map part_of phases)) ≡ joined (map part_of (with_line line phases))
joined_line line [] = sym (append-nil (cons_option (entry_of line) []))
joined_line line (phase ∷ phases) = cons_append (entry_of line) (part_of phase) (joined (map part_of phases))

-- the entries in order are those of the phases, one after another
joined_by : (line : LineReply) (lines : List LineReply) → filter_map entry_of lines ≡ joined (map part_of (phases_of lines)) → (op : Option Op) → line.op ≡ op
    → cons_option (entry_of line) (filter_map entry_of lines) ≡ joined (map part_of (cond (is_none line.op) ([] ∷ phases_of lines) (with_line line (phases_of lines))))
joined_by line lines rest None is =
    ap (λ o. cons_option (entry_by line.client o line.reply) (filter_map entry_of lines)) is ∙ rest
    ∙ sym (ap (λ o. joined (map part_of (cond (is_none o) ([] ∷ phases_of lines) (with_line line (phases_of lines))))) is)
joined_by line lines rest (Some op) is =
    ap (λ list. cons_option (entry_of line) list) rest ∙ joined_line line (phases_of lines)
    ∙ sym (ap (λ o. joined (map part_of (cond (is_none o) ([] ∷ phases_of lines) (with_line line (phases_of lines))))) is)

joined_phases : (lines : List LineReply) → filter_map entry_of lines ≡ joined (map part_of (phases_of lines))
joined_phases [] = refl
joined_phases (line ∷ lines) = joined_by line lines (joined_phases lines) line.op refl

-- each part has the entries of its phase
parts_fit : (phases : List (List LineReply)) → AllZip AreOfPhase phases (map part_of phases)
parts_fit [] = tt
parts_fit (phase ∷ phases) = ((λ client. refl), parts_fit phases)

longer : (test : Bool) (first : Entry) (later all : History) → length later ≤ length all → length (cond test (first ∷ later) later) ≤ length (cond test (first ∷ all) all)
longer true first later all le = omega (arith, le)
longer false first later all le = le

-- a history has no more commits than one that goes on
fewer_commits : (opening : Forest) (before more : History) → commit_count opening before ≤ commit_count opening (before ++ more)
fewer_commits opening [] more = omega arith
fewer_commits opening (entry ∷ before) more = longer (is_commit opening entry) entry _ _ (fewer_commits (after_entry opening entry) before more)

-- each acknowledgement has at least the commits before it
abbrev AtLeastBefore : Forest → History → Type 0
AtLeastBefore opening history = (place : ℕ) (entry : Entry) (count : ℕ) → slice_get history place ≡ Some entry → synced_count entry.reply ≡ Some count → commit_count opening (take place history) ≤ count

at_end : (before : History) (entry : Entry) (more : History) → slice_get (before ++ entry ∷ more) (length before) ≡ Some entry
at_end [] entry more = refl
at_end (first ∷ before) entry more = at_end before entry more

-- the acknowledgements of a part have at least the commits of an earlier one
all_of : (opening : Forest) (earlier before part rest : History) → AtLeastBefore opening (before ++ (part ++ rest)) → commit_count opening earlier ≤ commit_count opening before → All (AcknowledgesAtLeast (commit_count opening earlier)) part
all_of opening earlier before [] rest least le = All-nil (AcknowledgesAtLeast (commit_count opening earlier))
all_of opening earlier before (entry ∷ part) rest least le = All-cons (AcknowledgesAtLeast (commit_count opening earlier)) entry part
    (λ count is.
    let here : commit_count opening before ≤ count = subst (λ (h : History). commit_count opening h ≤ count) (take-append_seam before (entry ∷ (part ++ rest))) (least (length before) entry count (at_end before entry (part ++ rest)) is) in
    omega (arith, le, here))
    (all_of opening earlier (before ++ entry ∷ []) part rest (subst (AtLeastBefore opening) (sym (append_assoc before (entry ∷ []) (part ++ rest))) least)
    (let more : commit_count opening before ≤ commit_count opening (before ++ entry ∷ []) = fewer_commits opening before (entry ∷ []) in omega (arith, le, more)))

syncs_from : (opening : Forest) (before : History) (parts : List History) (rest : History) → AtLeastBefore opening (before ++ (joined parts ++ rest)) → (phase : ℕ) (part : History) → slice_get parts phase ≡ Some part
    → All (AcknowledgesAtLeast (commit_count opening (before ++ joined (take phase parts)))) part
syncs_from opening before [] rest least phase part here = absurd (none_some part here)
syncs_from opening before (first ∷ parts) rest least zero part here =
    let same : first ≡ part = same_Some first part here in
    subst (λ (p : History). All (AcknowledgesAtLeast (commit_count opening (before ++ []))) p) same
    (all_of opening (before ++ []) before first (joined parts ++ rest) (subst (λ (h : History). AtLeastBefore opening (before ++ h)) (append_assoc first (joined parts) rest) least)
    (let e : commit_count opening (before ++ []) ≡ commit_count opening before = ap (commit_count opening) (append-nil before) in omega (arith, e)))
syncs_from opening before (first ∷ parts) rest least (suc phase) part here =
    subst (λ (h : History). All (AcknowledgesAtLeast (commit_count opening h)) part) (append_assoc before first (joined (take phase parts)))
    (syncs_from opening (before ++ first) parts rest
    (subst (AtLeastBefore opening) (ap (λ (h : History). before ++ h) (append_assoc first (joined parts) rest) ∙ sym (append_assoc before first (joined parts ++ rest))) least) phase part here)

-- the replies fit a history of their entries in order, where each acknowledgement has at least the commits before it
fits_by : (opening : Forest) (lines : List LineReply) (last : Reply) (history : History) → history ≡ filter_map entry_of lines ++ last_entry last → AtLeastBefore opening history
    → ((count : ℕ) → synced_count last ≡ Some count → count ≡ commit_count opening history) → Fits opening lines last history
fits_by opening lines last history is least final =
    let parts = map part_of (phases_of lines) in
    let whole : history ≡ joined parts ++ last_entry last = is ∙ ap (λ (h : History). h ++ last_entry last) (joined_phases lines) in
    record {
      parts = parts;
      whole = whole;
      phases = parts_fit (phases_of lines);
      syncs = syncs_from opening [] parts (last_entry last) (subst (AtLeastBefore opening) whole least);
      final = final;
    }

-- the last sync acknowledges all commits
final_exact : (opening : Forest) (before : History) (last : Reply) (history : History) → history ≡ before ++ last_entry last
    → ((place : ℕ) (entry : Entry) (count : ℕ) → slice_get history place ≡ Some entry → synced_count entry.reply ≡ Some count → count ≡ commit_count opening (take place history))
    → (count : ℕ) → synced_count last ≡ Some count → count ≡ commit_count opening history
final_exact opening before (Synced commits) history is exact count synced =
    let entry : Entry = record { client = 0; op = Sync; reply = Synced commits } in
    exact (length before) entry count (ap (λ (h : History). slice_get h (length before)) is ∙ at_end before entry []) synced
    ∙ ap (λ (h : History). commit_count opening (take (length before) h)) is
    ∙ ap (commit_count opening) (take-append_seam before (entry ∷ []))
    ∙ sym (ap (commit_count opening) is ∙ ap length (commits_of-push opening before entry ∙ append-nil (commits_of opening before)))
final_exact opening before Okay history is exact count synced = absurd (none_some count synced)
final_exact opening before (More size) history is exact count synced = absurd (none_some count synced)
final_exact opening before (Content bytes) history is exact count synced = absurd (none_some count synced)
final_exact opening before (File number size links) history is exact count synced = absurd (none_some count synced)
final_exact opening before (Dir number entries) history is exact count synced = absurd (none_some count synced)
final_exact opening before (SubNames names) history is exact count synced = absurd (none_some count synced)
final_exact opening before (Used blocks) history is exact count synced = absurd (none_some count synced)
final_exact opening before (DataLost lost) history is exact count synced = absurd (none_some count synced)
final_exact opening before Spent history is exact count synced = absurd (none_some count synced)
final_exact opening before (Listed names) history is exact count synced = absurd (none_some count synced)
final_exact opening before (Refused cause) history is exact count synced = absurd (none_some count synced)
final_exact opening before (NoSpace short) history is exact count synced = absurd (none_some count synced)
final_exact opening before (DeviceFault dev) history is exact count synced = absurd (none_some count synced)
final_exact opening before (Halted dev tick) history is exact count synced = absurd (none_some count synced)
final_exact opening before NoMemory history is exact count synced = absurd (none_some count synced)

mapped : (answered : List Answered) → filter_map answered_entry answered ≡ filter_map entry_of (map line_reply answered)
mapped [] = refl
mapped (first ∷ answered) = ap (cons_option (answered_entry first)) (mapped answered)

-- the replies of a run fit its history, where each sync acknowledges all commits before it
pub run_fits : (opening : Forest) (answered : List Answered) (last : Reply) (history : History) → history ≡ entries_of answered last → AreSyncsCounted opening history → Fits opening (map line_reply answered) last history
run_fits opening answered last history is each =
    fits_by opening (map line_reply answered) last history (is ∙ ap (λ (h : History). h ++ last_entry last) (mapped answered))
    (λ place entry count here synced. let e : count ≡ commit_count opening (take place history) = each place entry here count synced in omega (arith, e))
    (final_exact opening (filter_map answered_entry answered) last history is (λ place entry count here synced. each place entry here count synced))
