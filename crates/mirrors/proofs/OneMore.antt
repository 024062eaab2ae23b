-- One more mirror is asked after those of which none settled it.
use Rattle.std.proofs.Common.{◌≡◌, ◌⊎◌, List, [], ◌∷◌, ◌++◌, true, false, Some, None, Ok, Err, refl, sym, ◌∙◌, ap, subst, inl, inr, append_assoc}
use Rattle.std.proofs.lemmas.Bool.{true≢false}
use Rattle.std.specs.List.{AllByRecursion}
use Rattle.fetch.specs.Source.{Answer}
use Rattle.fetch.specs.declared.FetchFault.TheVariants.{TooLong, Broken, OutOfMemory}
use Rattle.mirrors.specs.Together.{Together, settled, long, absent, broken, settles, Has}
use Rattle.mirrors.specs.steps.Joined.{with_none}

all_more : (P : Answer → Type 0) (answers : List Answer) (next : Answer) → AllByRecursion P answers → P next → AllByRecursion P (answers ++ (next ∷ []))
all_more P [] next h k = (k, tt)
all_more P (x ∷ xs) next h k = (h.0, all_more P xs next h.1 k)

all_as : (P Q : Answer → Type 0) → ((x : Answer) → P x → Q x) → (answers : List Answer) → AllByRecursion P answers → AllByRecursion Q answers
all_as P Q f [] h = tt
all_as P Q f (x ∷ xs) h = (f x h.0, all_as P Q f xs h.1)

has_more : (answer : Answer) (answers : List Answer) (next : Answer) → Has answer answers → Has answer (answers ++ (next ∷ []))
has_more answer answers next h =
    (h.0, h.1 ++ (next ∷ []), ap (λ (l : List Answer). l ++ (next ∷ [])) h.2 ∙ append_assoc h.0 (answer ∷ h.1) (next ∷ []))

has_last : (answers : List Answer) (next : Answer) → Has next (answers ++ (next ∷ []))
has_last answers next = (answers, [], refl)

abbrev IsOpen : Answer → Type 0
IsOpen x = settles x ≡ false

abbrev IsLacking : Answer → Type 0
IsLacking x = (x ≡ Ok None) ⊎ (x ≡ Err Broken)

abbrev IsBroken : Answer → Type 0
IsBroken x = x ≡ Err Broken

lacking_open : (x : Answer) → IsLacking x → IsOpen x
lacking_open x (inl e) = ap settles e
lacking_open x (inr e) = ap settles e

broken_open : (x : Answer) → IsBroken x → IsOpen x
broken_open x e = ap settles e

broken_lacking : (x : Answer) → IsBroken x → IsLacking x
broken_lacking x e = inr e

-- what is known of the answers so far

all_open : (answers : List Answer) (a : Answer) → Together answers a → settles a ≡ false → AllByRecursion IsOpen answers
all_open _ a (settled before all is) fails = absurd (true≢false (sym is ∙ fails))
all_open answers _ (long all has) fails = all
all_open answers _ (absent all has) fails = all_as IsLacking IsOpen lacking_open answers all
all_open answers _ (broken all) fails = all_as IsBroken IsOpen broken_open answers all

has_long : (answers : List Answer) (a : Answer) → Together answers a → a ≡ Err TooLong → Has (Err TooLong) answers
has_long _ a (settled before all is) e = absurd (true≢false (sym is ∙ ap settles e))
has_long answers _ (long all has) e = has
has_long answers _ (absent all has) e = absurd (cc)
has_long answers _ (broken all) e = absurd (cc)

all_lacking : (answers : List Answer) (a : Answer) → Together answers a → IsLacking a → AllByRecursion IsLacking answers
all_lacking _ a (settled before all is) e = absurd (true≢false (sym is ∙ lacking_open a e))
all_lacking answers _ (long all has) (inl e) = absurd (cc)
all_lacking answers _ (long all has) (inr e) = absurd (cc)
all_lacking answers _ (absent all has) e = all
all_lacking answers _ (broken all) e = all_as IsBroken IsLacking broken_lacking answers all

has_none : (answers : List Answer) (a : Answer) → Together answers a → a ≡ Ok None → Has (Ok None) answers
has_none _ a (settled before all is) e = absurd (true≢false (sym is ∙ ap settles e))
has_none answers _ (long all has) e = absurd (cc)
has_none answers _ (absent all has) e = has
has_none answers _ (broken all) e = absurd (cc)

all_broken : (answers : List Answer) (a : Answer) → Together answers a → a ≡ Err Broken → AllByRecursion IsBroken answers
all_broken _ a (settled before all is) e = absurd (true≢false (sym is ∙ ap settles e))
all_broken answers _ (long all has) e = absurd (cc)
all_broken answers _ (absent all has) e = absurd (cc)
all_broken answers _ (broken all) e = all

-- the next one settles it
pub joins_settled : (answers : List Answer) (a b : Answer) → Together answers a → settles a ≡ false → settles b ≡ true → Together (answers ++ (b ∷ [])) b
joins_settled answers a b t still is = settled answers (all_open answers a t still) is

-- it has one that is too long
pub joins_long : (answers : List Answer) (a : Answer) → Together answers a → settles a ≡ false → Together (answers ++ (Err TooLong ∷ [])) (Err TooLong)
joins_long answers a t still = long (all_more IsOpen answers (Err TooLong) (all_open answers a t still) refl) (has_last answers (Err TooLong))

stays_long : (answers : List Answer) (b : Answer) → Together answers (Err TooLong) → settles b ≡ false → Together (answers ++ (b ∷ [])) (Err TooLong)
stays_long answers b t still =
    long (all_more IsOpen answers b (all_open answers (Err TooLong) t refl) still) (has_more (Err TooLong) answers b (has_long answers (Err TooLong) t refl))

-- it has none
pub joins_none : (answers : List Answer) (a : Answer) → Together answers a → settles a ≡ false → Together (answers ++ (Ok None ∷ [])) (with_none a)
joins_none answers (Ok None) t still = absent (all_more IsLacking answers (Ok None) (all_lacking answers (Ok None) t (inl refl)) (inl refl)) (has_last answers (Ok None))
joins_none answers (Ok (Some file)) t still = absurd (true≢false still)
joins_none answers (Err TooLong) t still = stays_long answers (Ok None) t refl
joins_none answers (Err Broken) t still = absent (all_more IsLacking answers (Ok None) (all_lacking answers (Err Broken) t (inr refl)) (inl refl)) (has_last answers (Ok None))
joins_none answers (Err OutOfMemory) t still = absurd (true≢false still)

-- it gives no answer
pub joins_broken : (answers : List Answer) (a : Answer) → Together answers a → settles a ≡ false → Together (answers ++ (Err Broken ∷ [])) a
joins_broken answers (Ok None) t still =
    absent (all_more IsLacking answers (Err Broken) (all_lacking answers (Ok None) t (inl refl)) (inr refl)) (has_more (Ok None) answers (Err Broken) (has_none answers (Ok None) t refl))
joins_broken answers (Ok (Some file)) t still = absurd (true≢false still)
joins_broken answers (Err TooLong) t still = stays_long answers (Err Broken) t refl
joins_broken answers (Err Broken) t still = broken (all_more IsBroken answers (Err Broken) (all_broken answers (Err Broken) t refl) refl)
joins_broken answers (Err OutOfMemory) t still = absurd (true≢false still)

-- the same, by what the next one is equal to
pub when_long : (answers : List Answer) (a b : Answer) → b ≡ Err TooLong → Together answers a → settles a ≡ false → Together (answers ++ (b ∷ [])) (Err TooLong)
when_long answers a b e t still = subst (λ (x : Answer). Together (answers ++ (x ∷ [])) (Err TooLong)) (sym e) (joins_long answers a t still)

pub when_broken : (answers : List Answer) (a b : Answer) → b ≡ Err Broken → Together answers a → settles a ≡ false → Together (answers ++ (b ∷ [])) a
when_broken answers a b e t still = subst (λ (x : Answer). Together (answers ++ (x ∷ [])) a) (sym e) (joins_broken answers a t still)

pub when_wanting : (answers : List Answer) (a b : Answer) → b ≡ Err OutOfMemory → Together answers a → settles a ≡ false → Together (answers ++ (b ∷ [])) (Err OutOfMemory)
when_wanting answers a b e t still = subst (λ (x : Answer). Together (answers ++ (x ∷ [])) (Err OutOfMemory)) (sym e) (joins_settled answers a (Err OutOfMemory) t still refl)
