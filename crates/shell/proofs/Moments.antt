-- When a sink gained its bytes: at one moment, since one, and by one.
use Rattle.std.proofs.Common.{◌≡◌, inl, inr, ⊎_elim, ℕ, zero, suc, ◌+◌, ◌-◌, ◌<◌, ◌≤◌, Bool, true, false, List, [], ◌∷◌, ◌++◌, Some, None, Option, length, take, drop, replicate, max, if◌then◌else◌, refl, ap, ◌∙◌, sym, subst, arith, append_assoc, append-nil, Result, Ok, Err}
use Rattle.std.specs.Prelude.{◌||◌, All, IsSome, OnOk, OnErr, nat_le}
use Rattle.std.specs.List.{cons_option, filter_map}
use Rattle.std.proofs.lemmas.Bool.{false≢true, leb-true, leb-false, le-leb}
use Rattle.std.proofs.lemmas.List.{append_cancel_left, drop_all, length-append, length-replicate}
use Rattle.std.proofs.lemmas.List.Elements.{All-append, All-drop, All-head, All-nil, All-replicate, All-tail, All-weaker, filter_map-append}
use Rattle.forest_ops.specs.Acknowledged.{acknowledged}
use Rattle.forest_ops.specs.declared.acks.Ack.{Ack}
use Rattle.forest_ops.specs.declared.operation.Op.{Op}
use Rattle.forest_ops.specs.declared.operation.Reply.{Reply}
use Rattle.forest_ops.specs.declared.operation.Reply.TheVariants.{Synced}
use Rattle.text_io.specs.Streams.{AreGivenAt, GainsBy, GainsTextBy, GivesPrefix}
use Rattle.text_io.specs.StreamLaws.{gains_text, gains_text_still}
use Rattle.shell.specs.Moments.{GainsAllBut, GainsAt, GainsSince, TellsDurable}
use Rattle.shell.specs.Outcome.{Answered, ack_by, ack_of, acknowledges, acks_of, may_wait, reply_line, reply_line_by, reply_lines}
use Rattle.shell.specs.Output.{WasMade, WereMade}
use Rattle.shell.specs.Printing.{is_due, lines_after}
use Rattle.shell.proofs.Printing.{some_reply_line}

-- what holds of the members of two lists behind a place, where it holds of those of the first behind it and of all of the second
drop_of_both : {X : Type 0} (P : X → Type 0) (n : ℕ) (xs ys : List X) → All P (drop n xs) → All P ys → All P (drop n (xs ++ ys))
drop_of_both P zero xs ys first second = All-append P xs ys first second
drop_of_both P (suc n) [] ys first second = All-drop P (suc n) ys second
drop_of_both P (suc n) (x ∷ xs) ys first second = drop_of_both P n xs ys first second

-- a member that is no less than one number and no greater than another
both_at : (a m n : ℕ) (xs ys : List ℕ) → n < length xs → All (λ at. a ≤ at) (drop n (xs ++ ys)) → All (λ at. at ≤ m) xs → a ≤ m
both_at a m n [] ys within since by = absurd (omega (arith, within))
both_at a m zero (x ∷ xs) ys within since by =
    let from = All-head (λ at. a ≤ at) x (xs ++ ys) since in
    let to = All-head (λ at. at ≤ m) x xs by in
    omega (arith, from, to)
both_at a m (suc n) (x ∷ xs) ys within since by = both_at a m n xs ys (omega (arith, within)) since (All-tail (λ at. at ≤ m) x xs by)

module _ {K : Type 0} (held given_at : K → List ℕ) where
  -- A sink that is the same has gained nothing.
  pub at_nothing : (sink : K) (moment : ℕ) → GainsAt held given_at sink sink moment
  at_nothing sink moment = record {
    bytes = [];
    moments = [];
    holds = sym (append-nil (held sink));
    given = sym (append-nil (given_at sink));
    each = refl;
    at = All-nil (λ at. at ≡ moment);
  }

  at_bytes : (first last : K) (bytes : List ℕ) (moment : ℕ) → held last ≡ held first ++ bytes → AreGivenAt moment (held first) (held last) (given_at first) (given_at last) → GainsAt held given_at first last moment
  at_bytes first last bytes moment holds given =
      let count : length (held last) - length (held first) ≡ length bytes = omega (arith, ap length holds, length-append (held first) bytes) in
      record {
        bytes = bytes;
        moments = replicate (length (held last) - length (held first)) moment;
        holds = holds;
        given = given.at;
        each = length-replicate (length (held last) - length (held first)) moment ∙ count;
        at = All-replicate (λ at. at ≡ moment) (length (held last) - length (held first)) moment refl;
      }

  -- All that a call gave, or those that it gave before it failed, are gained at its moment.
  pub at_given : {T E : Type 0} (result : Result T E) (first last : K) (bytes : List ℕ) (moment : ℕ) → OnOk result (held last ≡ held first ++ bytes) → OnErr result (GivesPrefix bytes (held first) (held last))
      → AreGivenAt moment (held first) (held last) (given_at first) (given_at last) → GainsAt held given_at first last moment
  at_given (Ok value) first last bytes moment ok err given = at_bytes first last bytes moment ok given
  at_given (Err e) first last bytes moment ok err given = at_bytes first last (take err.0 bytes) moment err.2 given

  -- What is gained at a moment is so by it, and since it.
  pub at_by : (first last : K) (moment : ℕ) → GainsAt held given_at first last moment → GainsBy held given_at first last moment
  at_by first last moment gains = record {
    bytes = gains.bytes;
    moments = gains.moments;
    holds = gains.holds;
    given = gains.given;
    each = gains.each;
    by = All-weaker (λ at. at ≡ moment) (λ at. at ≤ moment) (λ at is. let e : at ≤ moment = omega (arith, is) in e) gains.moments gains.at;
  }

  pub at_since : (first last : K) (moment earlier : ℕ) → earlier ≤ moment → GainsAt held given_at first last moment → GainsSince held given_at first last 0 earlier
  at_since first last moment earlier le gains = record {
    bytes = gains.bytes;
    moments = gains.moments;
    holds = gains.holds;
    given = gains.given;
    each = gains.each;
    since = All-drop (λ at. earlier ≤ at) 0 gains.moments (All-weaker (λ at. at ≡ moment) (λ at. earlier ≤ at) (λ at is. let e : earlier ≤ at = omega (arith, le, is) in e) gains.moments gains.at);
  }

  pub since_nothing : (sink : K) (moment : ℕ) → GainsSince held given_at sink sink 0 moment
  since_nothing sink moment = at_since sink sink moment moment (omega arith) (at_nothing sink moment)

  -- Behind what was gained since a moment more is gained since then.
  pub since_still : (first mid last : K) (size moment later : ℕ) → moment ≤ later → GainsSince held given_at first mid size moment → GainsSince held given_at mid last 0 later → GainsSince held given_at first last size moment
  since_still first mid last size moment later le one two = record {
    bytes = one.bytes ++ two.bytes;
    moments = one.moments ++ two.moments;
    holds = two.holds ∙ ap (λ list. list ++ two.bytes) one.holds ∙ append_assoc (held first) one.bytes two.bytes;
    given = two.given ∙ ap (λ list. list ++ two.moments) one.given ∙ append_assoc (given_at first) one.moments two.moments;
    each = omega (arith, length-append one.moments two.moments, length-append one.bytes two.bytes, one.each, two.each);
    since = drop_of_both (λ at. moment ≤ at) size one.moments two.moments one.since (All-weaker (λ at. later ≤ at) (λ at. moment ≤ at) (λ at from. let e : moment ≤ at = omega (arith, from, le) in e) two.moments two.since);
  }

  -- What is gained behind no more than so many bytes is gained since its moment.
  pub since_behind : (first mid last : K) (size by moment : ℕ) → GainsBy held given_at first mid by → length (held mid) ≤ length (held first) + size → GainsSince held given_at mid last 0 moment → GainsSince held given_at first last size moment
  since_behind first mid last size by moment one few two = record {
    bytes = one.bytes ++ two.bytes;
    moments = one.moments ++ two.moments;
    holds = two.holds ∙ ap (λ list. list ++ two.bytes) one.holds ∙ append_assoc (held first) one.bytes two.bytes;
    given = two.given ∙ ap (λ list. list ++ two.moments) one.given ∙ append_assoc (given_at first) one.moments two.moments;
    each = omega (arith, length-append one.moments two.moments, length-append one.bytes two.bytes, one.each, two.each);
    since =
        let none : drop size one.moments ≡ [] = drop_all size one.moments (omega (arith, few, one.each, ap length one.holds, length-append (held first) one.bytes)) in
        drop_of_both (λ at. moment ≤ at) size one.moments two.moments (subst (All (λ at. moment ≤ at)) (sym none) (All-nil (λ at. moment ≤ at))) two.since;
  }

  -- A text that was gained but for its last bytes by a moment stays so when more is gained.
  pub all_but_still : (first mid last : K) (text : List ℕ) (most moment later : ℕ) → GainsAllBut held given_at first mid text most moment → GainsBy held given_at mid last later → GainsAllBut held given_at first last text most moment
  all_but_still first mid last text most moment later one two = record {
    gained = one.gained;
    rest = one.rest;
    whole = one.whole;
    few = one.few;
    by = gains_text_still held given_at first mid last one.gained moment later one.by two;
  }

  -- A line that was given by one moment, and not before another, tells how these lie.
  told_by : (first last : K) (before line : List ℕ) (moment by : ℕ) → 0 < length line → GainsSince held given_at first last (length before) moment → GainsTextBy held given_at first last (before ++ line) by → moment ≤ by
  told_by first last before line moment by some since text =
      let same : since.moments ≡ text.moments ++ text.others = append_cancel_left (given_at first) since.moments (text.moments ++ text.others) (sym since.given ∙ text.given) in
      both_at moment by (length before) text.moments text.others (omega (arith, some, text.each, length-append before line))
      (subst (λ list. All (λ at. moment ≤ at) (drop (length before) list)) same since.since) text.by

  -- What was printed of one of the answers.
  were_among : (sink_tells devices_tell : Type 0) (first last : K) (text : List ℕ) (before : List Answered) (one : Answered) (after : List Answered) → WereMade sink_tells devices_tell held given_at first last text (before ++ one ∷ after)
      → WasMade sink_tells devices_tell held given_at first last (text ++ reply_lines before) one
  were_among sink_tells devices_tell first last text [] one after made = subst (λ t. WasMade sink_tells devices_tell held given_at first last t one) (sym (append-nil text)) made.0
  were_among sink_tells devices_tell first last text (other ∷ before) one after made =
      subst (λ t. WasMade sink_tells devices_tell held given_at first last t one) (append_assoc text (reply_line other) (reply_lines before))
      (were_among sink_tells devices_tell first last (text ++ reply_line other) before one after made.1)

-- An acknowledgement counts from its moment on.
acknowledged_among : (acks others : List Ack) (ack : Ack) (moment : ℕ) → ack.moment ≤ moment → ack.commits ≤ acknowledged (acks ++ ack ∷ others) moment
acknowledged_among [] others ack moment from = by (nat_le ack.moment moment) (le-leb ack.moment moment from)
  where
    by : (b : Bool) → b ≡ true → ack.commits ≤ max (if b then ack.commits else 0) (acknowledged others moment)
    by true is = omega arith
    by false is = absurd (false≢true is)
acknowledged_among (one ∷ acks) others ack moment from = let later = acknowledged_among acks others ack moment from in omega (arith, later)

-- One of the acknowledgements of answers.
acks_among : (answered before after : List Answered) (one : Answered) (last : Reply) (moment count : ℕ) → answered ≡ before ++ one ∷ after → one.reply ≡ Synced count
    → acks_of answered last moment ≡ filter_map ack_of before ++ record { moment = one.moment; commits = count } ∷ (filter_map ack_of after ++ cons_option (ack_by moment last) [])
acks_among answered before after one last moment count among says =
    let tail : List Ack = cons_option (ack_by moment last) [] in
    ap (λ list. filter_map ack_of list ++ tail) among
    ∙ ap (λ list. list ++ tail) (filter_map-append ack_of before (one ∷ after))
    ∙ append_assoc (filter_map ack_of before) (filter_map ack_of (one ∷ after)) tail
    ∙ ap (λ ack. filter_map ack_of before ++ (cons_option ack (filter_map ack_of after) ++ tail)) (ap (ack_by one.moment) says)

-- The line of an operation isn't empty.
some_line : (op : Option Op) (client line : ℕ) (reply : Reply) → IsSome op → 0 < length (reply_line_by op client line reply)
some_line None client line reply some = absurd (false≢true some)
some_line (Some op) client line reply some = some_reply_line client line reply

-- What is told as durable by a moment was acknowledged by then.
pub told_is_acknowledged : {K : Type 0} (held given_at : K → List ℕ) (sink_tells devices_tell : Type 0) (first last : K) (answered : List Answered) (last_reply : Reply) (acks : List Ack) (end moment count : ℕ) → acks ≡ acks_of answered last_reply end → sink_tells → devices_tell
    → WereMade sink_tells devices_tell held given_at first last [] answered → TellsDurable held given_at first last answered moment count → count ≤ acknowledged acks moment
told_is_acknowledged held given_at sink_tells devices_tell first last answered last_reply acks end moment count are told told_too made tells =
    let one = tells.one in
    let in_time = were_among held given_at sink_tells devices_tell first last [] tells.before one tells.after (subst (WereMade sink_tells devices_tell held given_at first last []) tells.among made) tells.operation told told_too in
    let from : one.moment ≤ moment = told_by held given_at first last (reply_lines tells.before) (reply_line one) one.moment moment (some_line one.line.op one.line.client one.line.line one.reply tells.operation) in_time.since tells.given in
    subst (λ list. count ≤ acknowledged list moment) (sym (are ∙ acks_among answered tells.before tells.after one last_reply end count tells.among tells.says))
    (acknowledged_among (filter_map ack_of tells.before) (filter_map ack_of tells.after ++ cons_option (ack_by end last_reply) []) (record { moment = one.moment; commits = count }) moment from)

-- No more lines wait behind a reply than may.
pub few_wait : (lines line : List ℕ) (reply : Reply) → length (lines_after lines line reply) ≤ may_wait reply
few_wait lines line reply = by (acknowledges reply) (nat_le 4096 (length (lines ++ line))) refl
  where
    by : (ack many : Bool) → nat_le 4096 (length (lines ++ line)) ≡ many → length (if ack || many then [] else lines ++ line) ≤ (if ack then 0 else 4096 - 1)
    by true many is = omega arith
    by false true is = omega arith
    by false false is = let few = leb-false 4096 (length (lines ++ line)) is in omega (arith, few)
