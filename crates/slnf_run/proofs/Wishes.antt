-- What an actor wants next: the wish of an offered item whose earlier batches have ended.
use Rattle.std.proofs.Common.{◌≡◌, ℕ, ◌<◌, ◌≤◌, Bool, true, false, List, [], ◌∷◌, Option, Some, None, if◌then◌else◌, refl, sym, ap, ◌∙◌, subst, inl, inr, ◌⊎◌, le_refl, le_trans, arith}
use Rattle.std.proofs.lemmas.Bool.{cond_both}
use Rattle.std.proofs.lemmas.Bool.Decides.{nat_tests}
use Rattle.std.proofs.lemmas.Option.{same_Some, none-some}
use Rattle.slnf_access.specs.declared.requests.Entry.{Entry}
use Rattle.slnf_access.specs.declared.requests.Ask.{Ask}
use Rattle.slnf_access.specs.Machines.{Stand, Flies, Ends, HasEnded, stand_after}
use Rattle.slnf_run.specs.Setting.{Actor, Setting}
use Rattle.slnf_run.specs.Parts.{part_of, Offer, offers_of, batch_of, is_stopped}
use Rattle.slnf_run.specs.Scene.{stand_of}
use Rattle.slnf_run.specs.Run.{AllEnded, IsOffered, EarlierEnded}
use Rattle.slnf_run.specs.Scheduled.{Wish, below_or, by_rounds, sooner, first_of_wishes, ask_of, wanted}
use Rattle.slnf_run.specs.Jobs.{job_of, stand_in, wish_in, wishes_in}
use Rattle.slnf_run.proofs.Parting.{own_of_part}
use Rattle.slnf_run.proofs.Lists.{Every, every-weaker}
use Rattle.slnf_run.proofs.Offers.{IsKnown, rising_known, offers_of-rising}

pub below_or-true : (m n : ℕ) (next : Bool) → below_or m n next ≡ true → m ≤ n
below_or-true m n next h = grind (arith, nat_tests)

pub below_or-false : (m n : ℕ) (next : Bool) → below_or m n next ≡ false → n ≤ m
below_or-false m n next h = grind (arith, nat_tests)

pub below_or-above : (m n : ℕ) (next : Bool) → n < m → below_or m n next ≡ false
below_or-above m n next h = grind (arith, nat_tests)

-- an item stands alike by the whole list and by its actor's part
pub stands_in : {F A : Type 0} (s : Setting F A) (es : List Entry) (incarnation at : ℕ) (actor : Actor) (item : ℕ) →
    stand_of s.scene incarnation item es ≡ stand_in (job_of s incarnation at actor) (part_of incarnation es) item
stands_in s es incarnation at actor item = ap (stand_after (s.scene.machine incarnation)
    (s.scene.begins incarnation item)) (own_of_part incarnation item es)

-- the wishes of these offers to an actor
abbrev wishes_at : {F A : Type 0} → Setting F A → List Entry → ℕ → ℕ → Actor → List Offer → List Wish
wishes_at s es incarnation at actor offers = wishes_in (job_of s incarnation at actor) (part_of incarnation es) offers

-- The wish is that of a good offer, whose item flies on.
pub record IsWish {F A : Type 0} (s : Setting F A) (incarnation : ℕ) (es : List Entry) (Good : Offer → Type 0)
    (w : Wish) : Type 0 where
  pub offer : Offer
  pub good : Good offer
  pub flight : F
  pub flies : stand_of s.scene incarnation offer.item es ≡ Flies flight
  pub item : w.ask.item ≡ offer.item
  pub batch : w.batch ≡ offer.batch
  pub request : w.ask.request ≡ (s.scene.machine incarnation).asks flight

wish_is : {F A : Type 0} (s : Setting F A) (incarnation at : ℕ) (actor : Actor) (es : List Entry) (Good : Offer →
    Type 0) (offer : Offer) (stand : Stand F) (wishes : List Wish) → Good offer →
    stand_of s.scene incarnation offer.item es ≡ stand → Every (IsWish s incarnation es Good) wishes →
    Every (IsWish s incarnation es Good) (wish_in (job_of s incarnation at actor)
    (part_of incarnation es) offer stand wishes)
wish_is s incarnation at actor es Good offer (Ends verdict) wishes good e h = h
wish_is s incarnation at actor es Good offer (Flies flight) wishes good e h =
    (record { offer = offer; good = good; flight = flight; flies = e; item = refl; batch = refl; request = refl }, h)

-- each wish is one of a good offer
wishes_are : {F A : Type 0} (s : Setting F A) (incarnation at : ℕ) (actor : Actor) (es : List Entry) (Good : Offer →
    Type 0) (offers : List Offer) → Every Good offers →
    Every (IsWish s incarnation es Good) (wishes_at s es incarnation at actor offers)
wishes_are s incarnation at actor es Good [] h = tt
wishes_are s incarnation at actor es Good (offer ∷ offers) h =
    wish_is s incarnation at actor es Good offer
    (stand_in (job_of s incarnation at actor) (part_of incarnation es) offer.item)
    (wishes_at s es incarnation at actor offers) h.0 (stands_in s es incarnation at actor offer.item)
    (wishes_are s incarnation at actor es Good offers h.1)

sooner_meets : (c : Wish → Wish → Bool) (P : Wish → Type 0) (w : Wish) (o : Option Wish) → P w →
    ((v : Wish) → o ≡ Some v → P v) → P (sooner c w o)
sooner_meets c P w None h k = h
sooner_meets c P w (Some v) h k = cond_both (c v w) v w P (λ _. k v refl) (λ _. h)

-- the first wish is one of the wishes
pub first_meets : (c : Wish → Wish → Bool) (P : Wish → Type 0) (ws : List Wish) (w : Wish) → Every P ws →
    first_of_wishes c ws ≡ Some w → P w
first_meets c P [] w h e = absurd (none-some w e)
first_meets c P (v ∷ ws) w h e =
    subst P (same_Some (sooner c v (first_of_wishes c ws)) w e)
    (sooner_meets c P v (first_of_wishes c ws) h.0 (λ u k. first_meets c P ws u h.1 k))

-- wishes of earlier batches come first
abbrev pub KeepsBatches : (Wish → Wish → Bool) → Type 0
KeepsBatches c = ((v w : Wish) → c v w ≡ true → v.batch ≤ w.batch)
    × ((v w : Wish) → c v w ≡ false → w.batch ≤ v.batch)

pub rounds_keep : KeepsBatches by_rounds
rounds_keep = (λ v w h. below_or-true v.batch w.batch _ h, λ v w h. below_or-false v.batch w.batch _ h)

-- the batch of the sooner wish is not above that of either
sooner_least : (c : Wish → Wish → Bool) → KeepsBatches c → (w : Wish) (o : Option Wish) →
    ((sooner c w o).batch ≤ w.batch) × ((v : Wish) → o ≡ Some v → (sooner c w o).batch ≤ v.batch)
sooner_least c keeps w None = (le_refl w.batch, λ v e. absurd (none-some v e))
sooner_least c keeps w (Some v) = (
  cond_both (c v w) v w (λ u. u.batch ≤ w.batch) (λ h. keeps.0 v w h) (λ _. le_refl w.batch),
  λ u e. subst (λ x. (sooner c w (Some v)).batch ≤ x.batch) (same_Some v u e)
      (cond_both (c v w) v w (λ x. x.batch ≤ v.batch) (λ _. le_refl v.batch) (λ h. keeps.1 v w h)),
)

every_of_none : (c : Wish → Wish → Bool) (P : Wish → Type 0) (ws : List Wish) → first_of_wishes c ws ≡ None →
    Every P ws
every_of_none c P [] e = tt
every_of_none c P (w ∷ ws) e = absurd (none-some _ (sym e))

least_go : (c : Wish → Wish → Bool) (ws : List Wish) (batch : ℕ) (o : Option Wish) → first_of_wishes c ws ≡ o →
    ((v : Wish) → o ≡ Some v → batch ≤ v.batch) →
    ((v : Wish) → first_of_wishes c ws ≡ Some v → Every (λ u. v.batch ≤ u.batch) ws) → Every (λ u. batch ≤ u.batch) ws
least_go c ws batch None e h k = every_of_none c (λ u. batch ≤ u.batch) ws e
least_go c ws batch (Some v) e h k =
    every-weaker (λ u. v.batch ≤ u.batch) (λ u. batch ≤ u.batch) (λ u p. le_trans (h v refl) p) ws (k v e)

-- no wish has an earlier batch than the first
first_is_least : (c : Wish → Wish → Bool) → KeepsBatches c → (ws : List Wish) (w : Wish) → first_of_wishes c ws
    ≡ Some w → Every (λ v. w.batch ≤ v.batch) ws
first_is_least c keeps [] w e = tt
first_is_least c keeps (v ∷ ws) w e =
    subst (λ x. Every (λ u. x.batch ≤ u.batch) (v ∷ ws)) (same_Some (sooner c v (first_of_wishes c ws)) w e) (
      (sooner_least c keeps v (first_of_wishes c ws)).0,
      least_go c ws (sooner c v (first_of_wishes c ws)).batch (first_of_wishes c ws) refl
          (sooner_least c keeps v (first_of_wishes c ws)).1 (λ u k. first_is_least c keeps ws u k),
    )

ended_or_later : {F A : Type 0} (s : Setting F A) (incarnation at : ℕ) (actor : Actor) (es : List Entry) (batch : ℕ)
    (offer : Offer) (stand : Stand F) (wishes : List Wish) →
    Every (λ v. batch ≤ v.batch) (wish_in (job_of s incarnation at actor)
    (part_of incarnation es) offer stand wishes) → (offer.batch < batch → HasEnded stand)
    × Every (λ v. batch ≤ v.batch) wishes
ended_or_later s incarnation at actor es batch offer (Ends verdict) wishes h = (λ _. tt, h)
ended_or_later s incarnation at actor es batch offer (Flies flight) wishes h =
    (λ l. let k : batch ≤ offer.batch = h.0 in omega arith, h.1)

-- where no wish has an earlier batch than this, all offers of earlier batches have ended
earlier_ended : {F A : Type 0} (s : Setting F A) (incarnation at : ℕ) (actor : Actor) (es : List Entry) (batch : ℕ)
    (offers : List Offer) → Every (λ v. batch ≤ v.batch) (wishes_at s es incarnation at actor offers) →
    EarlierEnded s incarnation es batch offers
earlier_ended s incarnation at actor es batch [] h = tt
earlier_ended s incarnation at actor es batch (offer ∷ offers) h =
    let p : (offer.batch < batch → HasEnded (stand_in (job_of s incarnation at actor)
    (part_of incarnation es) offer.item)) × Every (λ v. batch ≤ v.batch)
    (wishes_at s es incarnation at actor offers) =
    ended_or_later s incarnation at actor es batch offer
    (stand_in (job_of s incarnation at actor) (part_of incarnation es) offer.item)
    (wishes_at s es incarnation at actor offers) h in (
      λ l. subst HasEnded (sym (stands_in s es incarnation at actor offer.item)) (p.0 l),
      earlier_ended s incarnation at actor es batch offers p.1,
    )

some_wanted : (stopped : Bool) (o : Option Wish) (ask : Ask) → (if stopped then None else ask_of o) ≡ Some ask →
    (stopped ≡ false) × ((w : Wish) × (o ≡ Some w) × (w.ask ≡ ask))
some_wanted true o ask e = absurd (none-some ask e)
some_wanted false None ask e = absurd (none-some ask e)
some_wanted false (Some w) ask e = (refl, (w, refl, same_Some w.ask ask e))

-- What an access that is wanted tells: the actor isn't stopped, the access is the one that an offered item asks for
-- where it stands, and all offers of earlier batches have ended.
pub record IsNextAccess {F A : Type 0} (s : Setting F A) (es : List Entry) (incarnation at : ℕ) (actor : Actor)
    (ask : Ask) : Type 0 where
  pub running : is_stopped actor (part_of incarnation es) ≡ false
  pub flight : F
  pub flies : stand_of s.scene incarnation ask.item es ≡ Flies flight
  pub request : ask.request ≡ (s.scene.machine incarnation).asks flight
  pub offered : IsOffered ask.item (offers_of s incarnation at actor)
  pub earlier : EarlierEnded s incarnation es (batch_of ask.item (offers_of s incarnation at actor))
      (offers_of s incarnation at actor)

next_of_wish : {F A : Type 0} (s : Setting F A) (c : Wish → Wish → Bool) → KeepsBatches c →
    (es : List Entry) (incarnation at : ℕ) (actor : Actor) (w : Wish) → is_stopped actor (part_of incarnation es)
    ≡ false → first_of_wishes c (wishes_at s es incarnation at actor (offers_of s incarnation at actor)) ≡ Some w →
    IsWish s incarnation es (IsKnown 0 (offers_of s incarnation at actor)) w →
    IsNextAccess s es incarnation at actor w.ask
next_of_wish s c keeps es incarnation at actor w running e is = record {
  running = running;
  flight = is.flight;
  flies = ap (λ item. stand_of s.scene incarnation item es) is.item ∙ is.flies;
  request = is.request;
  offered = subst (λ item. IsOffered item (offers_of s incarnation at actor)) (sym is.item) is.good.offered;
  earlier =
      subst (λ batch. EarlierEnded s incarnation es batch (offers_of s incarnation at actor))
      (is.batch ∙ (sym is.good.batch ∙ ap (λ item. batch_of item (offers_of s incarnation at actor)) (sym is.item)))
      (earlier_ended s incarnation at actor es w.batch (offers_of s incarnation at actor)
      (first_is_least c keeps _ w e));
}

pub wanted_tells : {F A : Type 0} (s : Setting F A) (c : Wish → Wish → Bool) → KeepsBatches c →
    (es : List Entry) (incarnation at : ℕ) (actor : Actor) (ask : Ask) → wanted s c es incarnation at actor
    ≡ Some ask → IsNextAccess s es incarnation at actor ask
wanted_tells s c keeps es incarnation at actor ask e =
    let p : (is_stopped actor (part_of incarnation es) ≡ false)
    × ((w : Wish) × (first_of_wishes c (wishes_at s es incarnation at actor (offers_of s incarnation at actor))
    ≡ Some w) × (w.ask ≡ ask)) =
    some_wanted (is_stopped actor (part_of incarnation es))
    (first_of_wishes c (wishes_at s es incarnation at actor (offers_of s incarnation at actor))) ask e in
    subst (IsNextAccess s es incarnation at actor) p.1.2
    (next_of_wish s c keeps es incarnation at actor p.1.0 p.0 p.1.1
    (first_meets c (IsWish s incarnation es (IsKnown 0 (offers_of s incarnation at actor))) _ p.1.0
    (wishes_are s incarnation at actor es (IsKnown 0 (offers_of s incarnation at actor))
    (offers_of s incarnation at actor)
    (rising_known 0 (offers_of s incarnation at actor) (offers_of-rising s incarnation at actor)))
    p.1.1))

none_wanted : (stopped : Bool) (o : Option Wish) → (if stopped then None else ask_of o) ≡ None → (stopped ≡ true)
    ⊎ (o ≡ None)
none_wanted true o e = inl refl
none_wanted false None e = inr refl
none_wanted false (Some w) e = absurd (none-some w.ask (sym e))

ended_of_no_wish : {F A : Type 0} (s : Setting F A) (c : Wish → Wish → Bool) (incarnation at : ℕ) (actor : Actor)
    (es : List Entry) (offer : Offer) (stand : Stand F) (wishes : List Wish) →
    first_of_wishes c (wish_in (job_of s incarnation at actor) (part_of incarnation es) offer stand wishes) ≡ None →
    HasEnded stand × (first_of_wishes c wishes ≡ None)
ended_of_no_wish s c incarnation at actor es offer (Ends verdict) wishes e = (tt, e)
ended_of_no_wish s c incarnation at actor es offer (Flies flight) wishes e = absurd (none-some _ (sym e))

ended_of_no_wishes : {F A : Type 0} (s : Setting F A) (c : Wish → Wish → Bool) (incarnation at : ℕ) (actor : Actor)
    (es : List Entry) (offers : List Offer) → first_of_wishes c (wishes_at s es incarnation at actor offers) ≡ None →
    AllEnded s incarnation es offers
ended_of_no_wishes s c incarnation at actor es [] e = tt
ended_of_no_wishes s c incarnation at actor es (offer ∷ offers) e =
    let p : HasEnded (stand_in (job_of s incarnation at actor) (part_of incarnation es) offer.item)
    × (first_of_wishes c (wishes_at s es incarnation at actor offers) ≡ None) =
    ended_of_no_wish s c incarnation at actor es offer
    (stand_in (job_of s incarnation at actor) (part_of incarnation es) offer.item)
    (wishes_at s es incarnation at actor offers) e in (
      subst HasEnded (sym (stands_in s es incarnation at actor offer.item)) p.0,
      ended_of_no_wishes s c incarnation at actor es offers p.1,
    )

-- an actor that wants nothing is stopped, or all its offers have ended
pub wants_nothing : {F A : Type 0} (s : Setting F A) (c : Wish → Wish → Bool) (es : List Entry) (incarnation at : ℕ)
    (actor : Actor) → wanted s c es incarnation at actor ≡ None → (is_stopped actor (part_of incarnation es) ≡ true)
    ⊎ AllEnded s incarnation es (offers_of s incarnation at actor)
wants_nothing s c es incarnation at actor e =
    elim (none_wanted (is_stopped actor (part_of incarnation es))
    (first_of_wishes c (wishes_at s es incarnation at actor (offers_of s incarnation at actor))) e) [
      | inl h ↦ inl h
      | inr h ↦ inr (ended_of_no_wishes s c incarnation at actor es (offers_of s incarnation at actor) h)
    ]
