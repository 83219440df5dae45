-- When the bytes were given that a sink gained in a run of calls.
use Rattle.std.proofs.Common.{◌≡◌, ℕ, ◌+◌, ◌-◌, ◌≤◌, List, [], ◌++◌, length, take, replicate, refl, sym, ap, ◌∙◌, arith, append_assoc, append-nil, Result, Ok, Err}
use Rattle.std.specs.Prelude.{OnOk, OnErr}
use Rattle.std.proofs.lemmas.List.{replicate-append-replicate, length-append, length-replicate}
use Rattle.std.proofs.lemmas.List.Elements.{All-append, All-nil, All-replicate, All-weaker}
use Rattle.text_io.specs.Streams.{AreGivenAt, GainsBy, GainsTextBy, GivesPrefix}

-- A sink that gains nothing gains nothing at any moment.
pub none_given : (moment : ℕ) (held given_at : List ℕ) → AreGivenAt moment held held given_at given_at
none_given moment held given_at = record {
  at = sym (append-nil given_at) ∙ ap (λ n. given_at ++ replicate n moment) (let zero : 0 ≡ length held - length held = omega arith in zero);
}

-- What was given in two calls at one moment was given at it.
pub given_then : (moment : ℕ) (old mid new old_at mid_at new_at : List ℕ) → length old ≤ length mid → length mid ≤ length new
    → AreGivenAt moment old mid old_at mid_at → AreGivenAt moment mid new mid_at new_at → AreGivenAt moment old new old_at new_at
given_then moment old mid new old_at mid_at new_at more still first second =
    let some : ℕ = length mid - length old in
    let others : ℕ = length new - length mid in
    let all : some + others ≡ length new - length old = omega (arith, more, still) in
    record {
      at = second.at
          ∙ ap (λ list. list ++ replicate others moment) first.at
          ∙ append_assoc old_at (replicate some moment) (replicate others moment)
          ∙ ap (λ list. old_at ++ list) (replicate-append-replicate some others moment ∙ ap (λ n. replicate n moment) all);
    }

module _ {K : Type 0} (held given_at : K → List ℕ) where
  -- A sink that is the same has gained nothing.
  pub gains_nothing : (sink : K) (moment : ℕ) → GainsBy held given_at sink sink moment
  gains_nothing sink moment = record {
    bytes = [];
    moments = [];
    holds = sym (append-nil (held sink));
    given = sym (append-nil (given_at sink));
    each = refl;
    by = All-nil (λ at. at ≤ moment);
  }

  -- Bytes that were given at a moment are gained by it.
  gains_bytes : (first last : K) (bytes : List ℕ) (moment : ℕ) → held last ≡ held first ++ bytes → AreGivenAt moment (held first) (held last) (given_at first) (given_at last) → GainsBy held given_at first last moment
  gains_bytes first last bytes moment holds given =
      let count : length (held last) - length (held first) ≡ length bytes = omega (arith, ap length holds, length-append (held first) bytes) in
      record {
        bytes = bytes;
        moments = replicate (length (held last) - length (held first)) moment;
        holds = holds;
        given = given.at;
        each = length-replicate (length (held last) - length (held first)) moment ∙ count;
        by = All-replicate (λ at. at ≤ moment) (length (held last) - length (held first)) moment (let le : moment ≤ moment = omega arith in le);
      }

  -- So are all that a call gave, or those that it gave before it failed.
  pub gains_given : {T E : Type 0} (result : Result T E) (first last : K) (bytes : List ℕ) (moment : ℕ) → OnOk result (held last ≡ held first ++ bytes) → OnErr result (GivesPrefix bytes (held first) (held last))
      → AreGivenAt moment (held first) (held last) (given_at first) (given_at last) → GainsBy held given_at first last moment
  gains_given (Ok value) first last bytes moment ok err given = gains_bytes first last bytes moment ok given
  gains_given (Err e) first last bytes moment ok err given = gains_bytes first last (take err.0 bytes) moment err.2 given

  -- What is gained by a moment is gained by a later one, and then more.
  pub gains_then : (first mid last : K) (moment later : ℕ) → moment ≤ later → GainsBy held given_at first mid moment → GainsBy held given_at mid last later → GainsBy held given_at first last later
  gains_then first mid last moment later le one two = record {
    bytes = one.bytes ++ two.bytes;
    moments = one.moments ++ two.moments;
    holds = two.holds ∙ ap (λ list. list ++ two.bytes) one.holds ∙ append_assoc (held first) one.bytes two.bytes;
    given = two.given ∙ ap (λ list. list ++ two.moments) one.given ∙ append_assoc (given_at first) one.moments two.moments;
    each = omega (arith, length-append one.moments two.moments, length-append one.bytes two.bytes, one.each, two.each);
    by = All-append (λ at. at ≤ later) one.moments two.moments (All-weaker (λ at. at ≤ moment) (λ at. at ≤ later) (λ at at_le. let all : at ≤ later = omega (arith, at_le, le) in all) one.moments one.by) two.by;
  }

  -- Where all that was gained is this text, it was gained by then.
  pub gains_text : (first last : K) (text : List ℕ) (moment : ℕ) → held last ≡ held first ++ text → GainsBy held given_at first last moment → GainsTextBy held given_at first last text moment
  gains_text first last text moment holds gains = record {
    more = [];
    moments = gains.moments;
    others = [];
    holds = holds ∙ ap (λ list. held first ++ list) (sym (append-nil text));
    given = gains.given ∙ ap (λ list. given_at first ++ list) (sym (append-nil gains.moments));
    each = omega (arith, gains.each, ap length gains.holds, ap length holds, length-append (held first) gains.bytes, length-append (held first) text);
    by = gains.by;
  }

  -- A text that was gained by a moment stays so when more is gained.
  pub gains_text_still : (first mid last : K) (text : List ℕ) (moment later : ℕ) → GainsTextBy held given_at first mid text moment → GainsBy held given_at mid last later → GainsTextBy held given_at first last text moment
  gains_text_still first mid last text moment later one two = record {
    more = one.more ++ two.bytes;
    moments = one.moments;
    others = one.others ++ two.moments;
    holds = two.holds ∙ ap (λ list. list ++ two.bytes) one.holds ∙ append_assoc (held first) (text ++ one.more) two.bytes ∙ ap (λ list. held first ++ list) (append_assoc text one.more two.bytes);
    given = two.given ∙ ap (λ list. list ++ two.moments) one.given ∙ append_assoc (given_at first) (one.moments ++ one.others) two.moments ∙ ap (λ list. given_at first ++ list) (append_assoc one.moments one.others two.moments);
    each = one.each;
    by = one.by;
  }
