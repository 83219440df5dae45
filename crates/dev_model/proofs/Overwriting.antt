-- What was overwritten, put back.
use Rattle.std.proofs.Common.{◌≡◌, ℕ, zero, suc, ◌<◌, List, [], ◌∷◌, ◌++◌, length, map, get_or, set, drop, slice_get, refl, ap, ◌∙◌, sym, arith, All}
use Rattle.std.proofs.Math.Seq.{drop-cons}
use Rattle.std.proofs.lemmas.List.{length-set, set-get_or, set-append_left}
use Rattle.std.proofs.lemmas.List.Elements.{All-set, All-head, All-tail}
use Rattle.dev_model.specs.Disk.{IsBlock, IsPending}
use Rattle.dev_model.specs.MemDisks.{asked_of, disk_by, restored}
use Rattle.dev_model.specs.CrashDisks.{slice_get-set_other}
use Rattle.dev_model.specs.declared.disk.Overwritten.{Overwritten}

-- the last write to a place is the one that shows
pub set-set : (xs : List (List ℕ)) (i : ℕ) (x y : List ℕ) → set (set xs i x) i y ≡ set xs i y
set-set [] i x y = refl
set-set (z ∷ zs) zero x y = refl
set-set (z ∷ zs) (suc i) x y = ap (λ rest. z ∷ rest) (set-set zs i x y)

restored-push : (earlier : List Overwritten) (one : Overwritten) (blocks : List (List ℕ)) → restored (earlier ++ one ∷ []) blocks ≡ restored earlier (set blocks one.block one.bytes)
restored-push [] one blocks = refl
restored-push (first ∷ later) one blocks = ap (λ bs. set bs first.block first.bytes) (restored-push later one blocks)

-- a write that keeps what it overwrites changes nothing of what is put back
pub restored_write : (earlier : List Overwritten) (one : Overwritten) (blocks : List (List ℕ)) (bytes : List ℕ) → one.bytes ≡ get_or blocks one.block one.bytes
    → restored (earlier ++ one ∷ []) (set blocks one.block bytes) ≡ restored earlier blocks
restored_write earlier one blocks bytes was =
    restored-push earlier one (set blocks one.block bytes)
    ∙ ap (restored earlier) (set-set blocks one.block bytes one.bytes ∙ ap (λ bs. set blocks one.block bs) was ∙ set-get_or blocks one.block one.bytes)

pub length-restored : (overwritten : List Overwritten) (blocks : List (List ℕ)) → length (restored overwritten blocks) ≡ length blocks
length-restored [] blocks = refl
length-restored (first ∷ later) blocks = length-set (restored later blocks) first.block first.bytes ∙ length-restored later blocks

-- new blocks were not overwritten
pub restored-append : (overwritten : List Overwritten) (blocks more : List (List ℕ)) → All (λ (one : Overwritten). one.block < length blocks) overwritten
    → restored overwritten (blocks ++ more) ≡ restored overwritten blocks ++ more
restored-append [] blocks more within = refl
restored-append (first ∷ later) blocks more within =
    let P : Overwritten → Type 0 = λ one. one.block < length blocks in
    let here : first.block < length (restored later blocks) = omega (arith, All-head P first later within, length-restored later blocks) in
    ap (λ bs. set bs first.block first.bytes) (restored-append later blocks more (All-tail P first later within))
    ∙ set-append_left (restored later blocks) more first.block first.bytes here

pub All-restored : (overwritten : List Overwritten) (blocks : List (List ℕ)) → All (λ (one : Overwritten). IsBlock one.bytes) overwritten → All IsBlock blocks → All IsBlock (restored overwritten blocks)
All-restored [] blocks bytes are = are
All-restored (first ∷ later) blocks bytes are =
    let P : Overwritten → Type 0 = λ one. IsBlock one.bytes in
    All-set IsBlock (restored later blocks) first.block first.bytes (All-head P first later bytes) (All-restored later blocks (All-tail P first later bytes) are)

-- a block that wasn't overwritten is as it is read
pub restored_other : (overwritten : List Overwritten) (blocks : List (List ℕ)) (shortest block : ℕ) → ¬ IsPending (disk_by blocks overwritten shortest) block
    → slice_get (restored overwritten blocks) block ≡ slice_get blocks block
restored_other [] blocks shortest block other = refl
restored_other (first ∷ later) blocks shortest block other =
    slice_get-set_other (restored later blocks) first.block block first.bytes (λ same. other (first.asked, (zero, omega arith, ap (λ n. record { block = n; bytes = first.asked }) (sym same))))
    ∙ restored_other later blocks shortest block (λ pending. other (pending.0, (suc pending.1.0, omega (arith, pending.1.1), pending.1.2)))

-- one more is put back
pub restored-drop : (overwritten : List Overwritten) (blocks : List (List ℕ)) (k : ℕ) (one : Overwritten) → k < length overwritten → one ≡ get_or overwritten k one
    → restored (drop k overwritten) blocks ≡ set (restored (drop (suc k) overwritten) blocks) one.block one.bytes
restored-drop overwritten blocks k one within is =
    ap (λ os. restored os blocks) (drop-cons overwritten k one within)
    ∙ ap (λ (o : Overwritten). set (restored (drop (suc k) overwritten) blocks) o.block o.bytes) (sym is)

-- where nothing is pending nothing was overwritten
pub none_overwritten : (overwritten : List Overwritten) → map asked_of overwritten ≡ [] → overwritten ≡ []
none_overwritten [] none = refl
none_overwritten (first ∷ later) none = cc
