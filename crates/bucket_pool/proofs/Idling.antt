-- Buckets that neither wait nor are open stay as they are when entries are durable and when actors commit.
use Rattle.std.proofs.Common.{◌≡◌, ℕ, ◌+◌, ◌*◌, ◌<◌, Bool, false, nat_lt, List, length, get_or, refl, sym, ap, ◌∙◌, arith}
use Rattle.std.proofs.lemmas.Bool.{false≢true}
use Rattle.std.proofs.lemmas.Bool.Decides.{nat_tests}
use Rattle.bucket_pool.specs.declared.bucket.Bucket.{Bucket}
use Rattle.bucket_pool.specs.declared.bucket.Run.{Run}
use Rattle.bucket_pool.specs.declared.bucket.State.{State}
use Rattle.bucket_pool.specs.declared.bucket.State.TheVariants.{Super, Journal, Node, User, Free, Waiting, Opened, Retired}
use Rattle.bucket_pool.specs.declared.groups.Group.{Group}
use Rattle.bucket_pool.specs.Buckets.{in_state, is_named, kept_at, kept_state, settled, settled_state}
use Rattle.bucket_pool.specs.Groups.{AreCounted, IsIdle, is_busy, is_busy_state}
use Rattle.bucket_pool.specs.Places.{partly}
use Rattle.vol_types.specs.Limits.{bucket_blocks}
use Rattle.bucket_pool.proofs.EachPlace.{partly_later, partly_skip}
use Rattle.bucket_pool.proofs.Grouping.{none_of_group}

settled_idle : (seq generation : ℕ) (state : State) → is_busy_state state ≡ false → settled_state seq generation state ≡ state
settled_idle seq generation Super is = refl
settled_idle seq generation Journal is = refl
settled_idle seq generation Node is = refl
settled_idle seq generation User is = refl
settled_idle seq generation Free is = refl
settled_idle seq generation (Waiting entry) is = absurd (false≢true (sym is))
settled_idle seq generation (Opened bucket) is = refl
settled_idle seq generation Retired is = refl

kept_idle : (actor : ℕ) (named : ℕ → Bool) (state : State) → is_busy_state state ≡ false → kept_state actor named state ≡ state
kept_idle actor named Super is = refl
kept_idle actor named Journal is = refl
kept_idle actor named Node is = refl
kept_idle actor named User is = refl
kept_idle actor named Free is = refl
kept_idle actor named (Waiting entry) is = refl
kept_idle actor named (Opened bucket) is = absurd (false≢true (sym is))
kept_idle actor named Retired is = refl

pub settled_stays : (seq : ℕ) (bucket : Bucket) → is_busy bucket ≡ false → settled seq bucket ≡ bucket
settled_stays seq bucket is = ap (in_state bucket) (settled_idle seq bucket.generation bucket.state is)

pub kept_stays : (actor : ℕ) (runs : List Run) (dev at : ℕ) (bucket : Bucket) → is_busy bucket ≡ false → kept_at actor runs dev at bucket ≡ bucket
kept_stays actor runs dev at bucket is = ap (in_state bucket) (kept_idle actor (λ slot. is_named runs dev (bucket_blocks * at + slot)) bucket.state is)

-- a group in which none waits or is open is passed over
pub pass_idle : (f : ℕ → Bucket → Bucket) (group : ℕ) (whole now : List Bucket) → ((at : ℕ) (bucket : Bucket) → is_busy bucket ≡ false → f at bucket ≡ bucket) → now ≡ partly f (256 * group) whole → length now ≡ length whole → IsIdle group now → now ≡ partly f (256 * (group + 1)) whole
pass_idle f group whole now stays is size idle =
    is ∙ partly_skip f (256 * group) (256 * (group + 1)) whole (omega arith) (λ k d from to within.
    stays k (get_or whole k d) (ap is_busy (sym (ap (λ list. get_or list k d) is ∙ partly_later f 0 (256 * group) k whole d from)) ∙ idle k d from (omega (arith, to)) (omega (arith, within, size))))

-- a group of which none is counted as busy
pub idle_group : (group : ℕ) (buckets : List Bucket) (groups : List Group) (d : Group) → AreCounted buckets groups → group < length groups → nat_lt 0 (get_or groups group d).busy ≡ false → IsIdle group buckets
idle_group group buckets groups d counted there none = λ k e from to within.
    let zero_ones : (get_or groups group d).busy ≡ 0 = zero_by (get_or groups group d).busy none in
    none_of_group is_busy is_busy group k buckets e (λ x h. h) (sym (counted.busy_ones group d there) ∙ zero_ones) from to within
  where
    zero_by : (n : ℕ) → nat_lt 0 n ≡ false → n ≡ 0
    zero_by n no_more = grind (arith, nat_tests)
