-- One file, fetched and offered.
use Rattle.std.proofs.Common.{◌≡◌, ℕ, Bool, Some, Result, Ok, Err, sym, ap, subst, ◌∙◌}
use Rattle.metadata.specs.File.{Bytes, Name}
use Rattle.denials.specs.Orders.{RoleMissing, BlobMissing}
use Rattle.path_patterns.specs.Grammar.{IsName}
use Rattle.path_patterns.specs.Names.{IsNameOf}
use Rattle.trust_rules.specs.State.{State}
use Rattle.trust_rules.specs.Runs.{Command, Init, Batch, OfferOne, PutBlob, Prune, Metadata, Target, Reply, Begun, Offered, BatchDone, Stored, Pruned, FileBytes, Absent, Refused, Steps}
use Rattle.table_rows.specs.declared.faults.StoreFault.{StoreFault}
use Rattle.table_rows.specs.declared.faults.StoreFault.TheVariants as stored
use Rattle.store.specs.Applies.{Replies}
use Rattle.store.specs.Applies as applied
use Rattle.store.specs.Standing.{Standing}
use Rattle.store.specs.Views.{reply_view}
use Rattle.store.specs.declared.command.Reply.{Reply as Said}
use Rattle.fetch.specs.Source.{Answer, Gives}
use Rattle.client.specs.Changes.{Changes}
use Rattle.client.specs.Session.{Takes, Makes, accepted, denied, unmade, IsUnmade, IsJudged}
use Rattle.client.specs.Taken.{IsTaking}
use Rattle.client.specs.Views.{Fault}
use Rattle.client.specs.Wanted.{Wanted, wanted_row, wanted_blob, Misses, role, blob}
use Rattle.client.specs.WantedViews.{command_of}
use Rattle.client.specs.declared.wanted.Use.{Use}
use Rattle.client.specs.declared.wanted.Use.TheVariants as uses
use Rattle.client.proofs.Composing.{kept}

-- what a source gave, by another spelling of the name and of the answer
pub gave : {Src : Type 0} (gives : Gives Src) (s t : Src) (n m : Bytes) (limit : ℕ) (r a : Answer) → gives s n limit r t → n ≡ m → r ≡ a → gives s m limit a t
gave gives s t n m limit r a h e k = subst (λ x. gives s x limit a t) e (subst (λ x. gives s n limit x t) k h)

pub misses_role : (name read : Name) (version : ℕ) (w : Wanted) → read ≡ name → IsName name → w ≡ wanted_row read version → Misses (RoleMissing name version) w
misses_role name read version w e is h = subst (Misses (RoleMissing name version)) (sym (h ∙ ap (λ n. wanted_row n version) e)) (role is)

pub misses_blob : (text path digest : Bytes) (len : ℕ) (w : Wanted) → IsNameOf text path (Some digest) → w ≡ wanted_blob text digest len → Misses (BlobMissing path digest len) w
misses_blob text path digest len w asks h = subst (Misses (BlobMissing path digest len)) (sym h) (blob asks)

-- ---- a command that was replied to

judged : (now : ℕ) (command : Command) (C D : State) (reply : Reply) (r : Result (Unit {0}) Fault) → Steps C command now (D, reply) → IsJudged reply r → Makes now command C D r
judged now command C D (Refused d index) r h is = subst (Makes now command C D) (sym is) (denied index h)
judged now command C D Begun r h is = subst (Makes now command C D) (sym is) (accepted Begun h tt)
judged now command C D (BatchDone a s) r h is = subst (Makes now command C D) (sym is) (accepted (BatchDone a s) h tt)
judged now command C D (Offered s) r h is = subst (Makes now command C D) (sym is) (accepted (Offered s) h tt)
judged now command C D (Stored s) r h is = subst (Makes now command C D) (sym is) (accepted (Stored s) h tt)
judged now command C D (Pruned b s) r h is = subst (Makes now command C D) (sym is) (accepted (Pruned b s) h tt)
judged now command C D (FileBytes b) r h is = subst (Makes now command C D) (sym is) (accepted (FileBytes b) h tt)
judged now command C D Absent r h is = subst (Makes now command C D) (sym is) (accepted Absent h tt)

steps_of : (trusted : Type 0) (S T : State) (c : Command) (now : ℕ) (reply : Reply) → IsTaking c → Replies trusted S c now T reply → Steps S c now (T, reply)
steps_of trusted S T (OfferOne o b) now reply is h = h
steps_of trusted S T (PutBlob digest b) now reply is h = h
steps_of trusted S T (Init b) now reply is h = absurd is
steps_of trusted S T (Batch os) now reply is h = absurd is
steps_of trusted S T Prune now reply is h = absurd is
steps_of trusted S T (Metadata name) now reply is h = absurd is
steps_of trusted S T (Target path asked) now reply is h = absurd is

pub taking_of : (purpose : Use) (b : Bytes) → IsTaking (command_of purpose b)
taking_of (uses.Document offer) b = tt
taking_of (uses.Blob digest) b = tt

pub offered : (A B : Standing) (c k : Command) (now : ℕ) (reply : Said) (r : Result (Unit {0}) Fault)
    → applied.Makes A B c now (Ok reply) → c ≡ k → IsTaking k → IsJudged (reply_view reply) r → Changes A B (λ C D. Makes now k C D r)
offered A B c k now reply r makes e is j =
    let (moves, holds) = subst (λ x. applied.Makes A B x now (Ok reply)) e makes in
    record {
      moves = λ S at. let (T, to, so) = moves S at in (T, to, judged now k S T (reply_view reply) r (steps_of _ S T k now (reply_view reply) is so) j);
      clean = holds.clean;
    }

-- ---- one that was not made

pub undamaged : (A B : Standing) (c : Command) (now : ℕ) (fault : StoreFault) → applied.Makes A B c now (Err fault) → fault ≡ stored.Damaged → ⊥
undamaged A B c now fault makes is = subst (λ (f : StoreFault). applied.Makes A B c now (Err f)) is makes

pub unoffered : (A B : Standing) (c : Command) (now : ℕ) (fault : StoreFault) → applied.Makes A B c now (Err fault) → Changes A B (λ C D. D ≡ C)
unoffered A B c now stored.OutOfMemory makes = kept makes
unoffered A B c now stored.Database makes = kept makes
unoffered A B c now stored.Damaged makes = absurd makes

pub not_made : (now : ℕ) (command : Command) (C D : State) (fault : Fault) → D ≡ C → IsUnmade fault → Makes now command C D (Err fault)
not_made now command C D fault e is = subst (λ x. Makes now command C x (Err fault)) (sym e) (unmade is)

-- ---- one file, by another spelling of what is wanted and of the end
pub as_wanted : {Src : Type 0} (gives : Gives Src) (now : ℕ) (w v : Wanted) (s t : Src) (C D : State) (r q : Result Bool Fault)
    → w ≡ v → r ≡ q → Takes gives now w s C t D r → Takes gives now v s C t D q
as_wanted gives now w v s t C D r q e k h = subst (λ x. Takes gives now x s C t D q) e (subst (λ x. Takes gives now w s C t D x) k h)

-- a command made with the same bytes, by another spelling
pub as_made : (now : ℕ) (command : Bytes → Command) (a b : Bytes) (C D : State) (r : Result (Unit {0}) Fault) → a ≡ b → Makes now (command a) C D r → Makes now (command b) C D r
as_made now command a b C D r e h = subst (λ x. Makes now (command x) C D r) e h
