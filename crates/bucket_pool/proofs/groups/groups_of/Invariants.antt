use Rattle.std.proofs.Common.{◌≡◌, ℕ, ◌<◌, length, get_or}
use Rattle.std.specs.List.{count_by}
use Rattle.bucket_pool.specs.declared.groups.Group.{Group}
use Rattle.bucket_pool.specs.Buckets.{is_free}
use Rattle.bucket_pool.specs.Groups.{group_of, is_busy}
use Rattle.bucket_pool.proofs.groups.groups_of.Given as goal

abbrev pub invariant-loop-group : goal.invariant-loop-group
invariant-loop-group l = record {
  size : length l.groups.items ≡ l.group;
  free_ones : (g : ℕ) (d : Group) → g < length l.groups.items → (get_or l.groups.items g d).free ≡ count_by is_free (group_of g l.buckets);
  busy_ones : (g : ℕ) (d : Group) → g < length l.groups.items → (get_or l.groups.items g d).busy ≡ count_by is_busy (group_of g l.buckets);
}
