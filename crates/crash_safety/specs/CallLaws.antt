-- Laws on what calls ask for, for whoever makes them: nothing was called, more may be asked for, one part came after another.
use Rattle.std.proofs.Common.{inl, inr, ⊎_elim, ℕ, ◌<◌, ◌≤◌, List, refl, subst, ◌∙◌, arith}
use Rattle.std.proofs.lemmas.Bool.{cases_lt}
use Rattle.std.specs.Prelude.{All}
use Rattle.dev_model.specs.CrashLaws.{as_read_may_be_left, left_itself, left_then, same_but_more, started}
use Rattle.dev_model.specs.Crashes.{IsCrashImageBut}
use Rattle.dev_model.specs.Devices.{DevicesState, now}
use Rattle.dev_model.specs.Disk.{Disk, IsCrashImage, IsDisk, as_read}
use Rattle.dev_model.specs.HeldBlocks.{HasNoChanceMatch, HaveHeld}
use Rattle.dev_model.specs.HeldLaws.{hold_here, no_chance_before}
use Rattle.crash_safety.specs.Elsewhere.{KeepsSizes}
use Rattle.crash_safety.specs.Parts.{AsksAt}

-- Nothing was called yet.
pub asks_here : (touched : ℕ → ℕ → Type 0) (asked : ℕ → ℕ → List ℕ → Type 0) (state : DevicesState) → AsksAt touched asked state state
asks_here touched asked state = record {
  crashes = started (λ m disks image. IsCrashImageBut touched (now state) image) state (λ image may. left_itself touched (now state) image may);
  elsewhere = λ dev block away. refl;
  asks = λ opens. hold_here opens asked state;
}

-- More places may be touched, and more asked for.
pub asks_more : (few many : ℕ → ℕ → Type 0) (asked more : ℕ → ℕ → List ℕ → Type 0) (old new : DevicesState) → ((dev block : ℕ) → few dev block → many dev block) → ((dev block : ℕ) (bytes : List ℕ) → asked dev block bytes → more dev block bytes)
    → AsksAt few asked old new → AsksAt many more old new
asks_more few many asked more old new wider further call = record {
  crashes = record {
    later = call.crashes.later;
    past = call.crashes.past;
    each = λ m lo hi image may. let left = call.crashes.each m lo hi image may in (left.0, left.1, same_but_more few many left.0 image wider left.2);
  };
  elsewhere = same_but_more few many (as_read (now old)) (as_read (now new)) wider call.elsewhere;
  asks = λ opens m lo hi dev block no_chance bytes is_open held. ⊎_elim
      (λ (before : HaveHeld (now old) dev block bytes). inl before)
      (λ (asks : asked dev block bytes). inr (further dev block bytes asks))
      (call.asks opens m lo hi dev block no_chance bytes is_open held);
}

module _ (touched : ℕ → ℕ → Type 0) (asked : ℕ → ℕ → List ℕ → Type 0) (old mid new : DevicesState) (first : AsksAt touched asked old mid) (second : AsksAt touched asked mid new) where
  -- One part of the calls came after another.
  pub asks_then : AsksAt touched asked old new
  asks_then = record {
    crashes = record {
      later = let begun = first.crashes.later in let later = second.crashes.later in omega (arith, begun, later);
      past = λ m le. let begun = first.crashes.later in second.crashes.past m (omega (arith, le, begun)) ∙ first.crashes.past m le;
      each = λ m lo hi image may. ⊎_elim
          (λ (later : mid.moment < m).
          let left = second.crashes.each m (omega (arith, later)) hi image may in
          left_then touched (now old) left.0 image (first.crashes.each mid.moment first.crashes.later (omega arith) left.0 left.1) left.2)
          (λ (earlier : m ≤ mid.moment). first.crashes.each m lo earlier image (subst (λ (ds : List Disk). IsCrashImage ds image) (second.crashes.past m earlier) may))
          (cases_lt mid.moment m);
    };
    elsewhere = λ dev block away. first.elsewhere dev block away ∙ second.elsewhere dev block away;
    asks = λ opens m lo hi dev block no_chance bytes is_open held.
        let begun = first.crashes.later in
        let past = second.crashes.past in
        ⊎_elim
        (λ (later : mid.moment < m).
        let by_then : HasNoChanceMatch opens dev block old.moment mid.moment mid = no_chance_before opens dev block old.moment m mid new past mid.moment (omega (arith, later)) (omega arith) no_chance in
        ⊎_elim
        (λ (before : HaveHeld (now mid) dev block bytes). first.asks opens mid.moment begun (omega arith) dev block by_then bytes is_open before)
        (λ (asks : asked dev block bytes). inr asks)
        (second.asks opens m (omega (arith, later)) hi dev block (λ n from to. no_chance n (omega (arith, begun, from)) to) bytes is_open held))
        (λ (earlier : m ≤ mid.moment).
        first.asks opens m lo earlier dev block (no_chance_before opens dev block old.moment m mid new past m (omega arith) earlier no_chance) bytes is_open
        (subst (λ (ds : List Disk). HaveHeld ds dev block bytes) (past m earlier) held))
        (cases_lt mid.moment m);
  }

  -- Sizes that each part keeps both keep.
  pub sizes_then : All IsDisk (now mid) → KeepsSizes old mid → KeepsSizes mid new → KeepsSizes old new
  sizes_then are before after m lo hi image may = ⊎_elim
      (λ (later : mid.moment < m). before mid.moment first.crashes.later (omega arith) (as_read (now mid)) (as_read_may_be_left (now mid) are) ∙ after m (omega (arith, later)) hi image may)
      (λ (earlier : m ≤ mid.moment). before m lo earlier image (subst (λ (ds : List Disk). IsCrashImage ds image) (second.crashes.past m earlier) may))
      (cases_lt mid.moment m)
