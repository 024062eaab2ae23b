-- A rule stays if each of its ids is kept, and no other id is there.
use Rattle.std.proofs.Common.{◌≡◌}
use Rattle.std.specs.List.{AllByRecursion}
use Rattle.keys_roles.specs.steps.Counting.{IsIn, IsKept}
use Rattle.keys_roles.specs.Plain.{RoleRule, Table}
use Rattle.keys_roles.specs.Rules.{SameRule}
use Rattle.keys_roles.proofs.Elements.{contains_in, in_contains, of_each, for_each}

pub stays : (old : RoleRule) (old_keys : Table) (new : RoleRule) (new_keys : Table) → old.threshold ≡ new.threshold
    → AllByRecursion (IsKept old_keys new.keyids new_keys) old.keyids → AllByRecursion (IsIn old.keyids) new.keyids → SameRule old old_keys new new_keys
stays old old_keys new new_keys e kept listed = record {
  threshold = e;
  no_fewer = λ id c.
      let k = of_each (IsKept old_keys new.keyids new_keys) old.keyids id kept (in_contains old.keyids id c) in
      (contains_in new.keyids id k.0, k.1);
  no_more = λ id c. contains_in old.keyids id (of_each (IsIn old.keyids) new.keyids id listed (in_contains new.keyids id c));
}

pub all_kept : (old : RoleRule) (old_keys : Table) (new : RoleRule) (new_keys : Table) → SameRule old old_keys new new_keys
    → AllByRecursion (IsKept old_keys new.keyids new_keys) old.keyids
all_kept old old_keys new new_keys same =
    for_each (IsKept old_keys new.keyids new_keys) old.keyids (λ id i.
    let k = same.no_fewer id (contains_in old.keyids id i) in (in_contains new.keyids id k.0, k.1))

pub all_listed : (old : RoleRule) (old_keys : Table) (new : RoleRule) (new_keys : Table) → SameRule old old_keys new new_keys
    → AllByRecursion (IsIn old.keyids) new.keyids
all_listed old old_keys new new_keys same =
    for_each (IsIn old.keyids) new.keyids (λ id i. in_contains old.keyids id (same.no_more id (contains_in new.keyids id i)))
