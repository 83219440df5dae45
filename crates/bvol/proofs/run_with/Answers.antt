use Rattle.std.proofs.Common.{◌≡◌, ◌⊎◌, ℕ, Bool, true, false, if◌then◌else◌, [], Global, inl, inr, map, sym}
use Rattle.std.specs.Rc.{rc_str_bytes}
use Rattle.bvol.specs.Arguments.{asks_help}
use Rattle.bvol.proofs.run_with.Goals as goal

-- what was printed, or not, has one of two statuses
one_of_both : (ok : Bool) (status : ℕ) → status ≡ (if ok then 0 else 5) → (status ≡ 0) ⊎ (status ≡ 5)
one_of_both true status is = inl is
one_of_both false status is = inr is

pub returns-in-Some : goal.returns-in-Some
returns-in-Some g c =
    let asked : true ≡ asks_help (map (rc_str_bytes {Z = Global}) c.args.args.now) = c.in-Some.ensures in
    record {
      help = λ asks. one_of_both _ c.printed.result c.printed.ensures;
      words = [];
      files = [];
      run = λ none. absurd cc;
    }

pub returns-in-Ok : goal.returns-in-Ok
returns-in-Ok g c =
    let unasked : false ≡ asks_help (map (rc_str_bytes {Z = Global}) c.args.args.now) = c.in_default.ensures in
    record {
      help = λ asks. absurd cc;
      words = map (rc_str_bytes {Z = Global}) c.in-Some-words_and_paths.arguments.now;
      files = map (rc_str_bytes {Z = Global}) c.in-Some-words_and_paths.images.now;
      run = λ none. (sym c.in-Some-words_and_paths.ensures.parts, c.in-Ok.ensures);
    }
