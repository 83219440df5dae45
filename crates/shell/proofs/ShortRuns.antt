-- The history of a run is short: it has an entry for each line at most, and one for the last sync, and a script has few bytes.
use Rattle.std.proofs.Common.{◌≡◌, ◌≤◌, ◌<◌, ◌+◌, ◌^◌, ℕ, Bool, true, false, cond, Option, Some, None, List, [], ◌∷◌, length, map, refl, ap, arith}
use Rattle.std.specs.Prelude.{not, ◌==◌}
use Rattle.std.specs.List.{cons_option, filter_map, enumerate_from, onto_first}
use Rattle.std.specs.Option.{option_to_list}
use Rattle.std.proofs.lemmas.List.{length-append, length-map}
use Rattle.std.proofs.lemmas.List.Filters.{length-filter_both}
use Rattle.std.proofs.lemmas.List.FromFn.{length-enumerate_from}
use Rattle.std.proofs.lemmas.Slice.Zip.{AllZip-long}
use Rattle.forest_ops.specs.declared.operation.Entry.{Entry}
use Rattle.forest_ops.specs.declared.operation.Op.{Op}
use Rattle.forest_ops.specs.declared.operation.Op.TheVariants.{Sync}
use Rattle.forest_ops.specs.declared.operation.Reply.{Reply}
use Rattle.forest_ops.specs.Fits.{entry_if_any, last_entry}
use Rattle.script_text.specs.Lines.{is_skipped, lines_of}
use Rattle.script_text.specs.Scripts.{IsLine, saying_from}
use Rattle.script_text.specs.declared.reading.Line.{Line}
use Rattle.shell.specs.Outcome.{Answered, entries_of, entry_of, operation_count}
use Rattle.shell.specs.Output.{GaveScript}

onto_few : (byte : ℕ) (lines : List (List ℕ)) (count : ℕ) → length lines ≤ count → length (onto_first byte lines) ≤ count + 1
onto_few byte [] count few = omega arith
onto_few byte (line ∷ lines) count few = omega (arith, few)

-- A text has no more lines than bytes.
lines_few : (bytes : List ℕ) → length (lines_of bytes) ≤ length bytes
lines_few [] = omega arith
lines_few (byte ∷ bytes) = by (byte == 10) (lines_few bytes)
  where
    by : (b : Bool) → length (lines_of bytes) ≤ length bytes → length (cond b ([] ∷ lines_of bytes) (onto_first byte (lines_of bytes))) ≤ length (byte ∷ bytes)
    by true few = omega (arith, few)
    by false few = let more = onto_few byte (lines_of bytes) (length bytes) few in omega (arith, more)

-- Of these some say something.
saying_few : (texts : List (List ℕ)) → length (saying_from 1 texts) ≤ length texts
saying_few texts =
    let both = length-filter_both (λ (text : ℕ × List ℕ). not (is_skipped text.1)) (λ (text : ℕ × List ℕ). not (not (is_skipped text.1))) (λ text. refl) (enumerate_from 1 texts) in
    let all = length-enumerate_from 1 texts in
    omega (arith, both, all)

found_few : (answered : List Answered) → length (filter_map entry_of answered) ≤ length answered
found_few [] = omega arith
found_few (one ∷ answered) = by (entry_of one) (found_few answered)
  where
    by : (entry : Option Entry) → length (filter_map entry_of answered) ≤ length answered → length (cons_option entry (filter_map entry_of answered)) ≤ length (one ∷ answered)
    by None few = omega (arith, few)
    by (Some entry) few = omega (arith, few)

last_few : (last : Reply) → length (last_entry last) ≤ 1
last_few last = by (entry_if_any 0 Sync last)
  where
    by : (entry : Option Entry) → length (option_to_list entry) ≤ 1
    by None = omega arith
    by (Some entry) = omega arith

-- So the history is short.
pub few_entries : (source_tells : Type 0) (left : List ℕ) (script : List Line) (answered : List Answered) (last : Reply) → GaveScript source_tells left script → map (λ (a : Answered). a.line) answered ≡ script → length (entries_of answered last) < 2 ^ 31
few_entries source_tells left script answered last gave lines =
    let bytes = gave.taken.short in
    let texts = lines_few gave.text in
    let saying = saying_few (lines_of gave.text) in
    let long : length script ≡ length (saying_from 1 (lines_of gave.text)) = AllZip-long (λ (text : ℕ × List ℕ) (entry : Line). IsLine text.0 text.1 entry) (saying_from 1 (lines_of gave.text)) script gave.reads in
    let same : length (map (λ (a : Answered). a.line) answered) ≡ length script = ap (λ (ls : List Line). length ls) lines in
    let mapped = length-map answered (λ (a : Answered). a.line) in
    let found = found_few answered in
    let one = last_few last in
    let all = length-append (filter_map entry_of answered) (last_entry last) in
    omega (arith, bytes, texts, saying, long, same, mapped, found, one, all)

operations_few : (lines : List Line) → operation_count lines ≤ length lines
operations_few [] = omega arith
operations_few (line ∷ lines) = by line.op (operations_few lines)
  where
    by : (op : Option Op) → operation_count lines ≤ length lines → length (cons_option op (filter_map (λ (one : Line). one.op) lines)) ≤ length (line ∷ lines)
    by None few = omega (arith, few)
    by (Some op) few = omega (arith, few)

-- So are its operations.
pub few_operations : (source_tells : Type 0) (left : List ℕ) (script : List Line) → GaveScript source_tells left script → operation_count script + 1 < 2 ^ 64
few_operations source_tells left script gave =
    let bytes = gave.taken.short in
    let texts = lines_few gave.text in
    let saying = saying_few (lines_of gave.text) in
    let long : length script ≡ length (saying_from 1 (lines_of gave.text)) = AllZip-long (λ (text : ℕ × List ℕ) (entry : Line). IsLine text.0 text.1 entry) (saying_from 1 (lines_of gave.text)) script gave.reads in
    let some = operations_few script in
    omega (arith, bytes, texts, saying, long, some)
