-- Each step keeps the rule of the table.
use Rattle.std.proofs.Common.{◌≡◌, ◌≢◌, ℕ, ◌+◌, ◌-◌, ◌*◌, ◌%◌, ◌^◌, ◌<◌, List, [], ◌∷◌, ◌++◌, length, get_or, set, sym, refl, ap, ◌∙◌, subst, arith, Option, Some, unwrap_or, length-set, append-nil}
use Rattle.std.specs.List.{AllByRecursion}
use mathlib.Core.Logic.{dite}
use mathlib.Core.Option.{none, some}
use native.Mathlib.Decide.{ℕ_discrete}
use lib.ListN.{get_elem?}
use lib.Seq.{set-get_or}
use Rattle.atomic_table.specs.Table.{State, Me, step, keeps, takes, gives, Allows, Splits, Joins}
use Rattle.atomic_table.proofs.Lists.{set_else, set_again, one_turn}
use Rattle.slnf_turns.specs.declared.views.Line.{Line}
use Rattle.slnf_turns.specs.declared.views.Joined.{Joined}
use Rattle.slnf_turns.specs.declared.views.View.{View}
use Rattle.slnf_turns.specs.declared.views.Stage.{Stage}
use Rattle.slnf_turns.specs.declared.views.Stage.TheVariants.{Free, Waits, Turn, Open, Spent}
use Rattle.slnf_turns.specs.Views.{Begins, AllOf, seen_of, WasTold, staged, after_open, after_raise, after_split, split_off, after_join, spent_view}
use Rattle.slnf_turns.specs.Rule.{queues_at, queues, living_at, living, HasTicket, IsOpenAt, Knows, AreListed, IsKept, AreKin, Rule}
use Rattle.slnf_turns.specs.Steps.{drew, looked, opened, wrote, raised, learned}
use Rattle.slnf_turns.proofs.Lists.{all_map}
use Rattle.slnf_turns.proofs.Queue.{with_draw, with_open, with_raise, queue_same, queue_draws, queue_opens, queue_raises, queue_admits, requeued, at_home, near_tickets}
use Rattle.slnf_turns.proofs.Tale.{tale_same, sees_one, tale_admits, tale_spends, tale_raises, still_begins, list_else}
use Rattle.slnf_turns.proofs.Kin.{with_split, with_join, kin_moves, kin_splits, kin_joins}

-- the shard, ticket and lists of a stage
abbrev ticket_or : ℕ → Stage → ℕ × ℕ
ticket_or d Free = (d, d)
ticket_or d (Waits k t) = (k, t)
ticket_or d (Turn k t) = (k, t)
ticket_or d (Open k t base more) = (k, t)
ticket_or d Spent = (d, d)

abbrev base_or : List Line → Stage → List Line
base_or d (Open k t base more) = base
base_or d _ = d

abbrev more_or : List Line → Stage → List Line
more_or d (Open k t base more) = more
more_or d _ = d

some_item : {B : Type 0} (k j : ℕ) (b c : B) → ◌≡◌ {A = List (ℕ × Option B)} ((k, Some b) ∷ []) ((j, Some c) ∷ []) → b ≡ c
some_item {B} k j b c e = ap (λ (xs : List (ℕ × Option B)). item_or b xs) e
  where
    item_or : B → List (ℕ × Option B) → B
    item_or d [] = d
    item_or d (x ∷ xs) = unwrap_or x.1 d

append_cancel : {A : Type 0} (xs ys zs : List A) → xs ++ ys ≡ xs ++ zs → ys ≡ zs
append_cancel [] ys zs e = e
append_cancel (x ∷ xs) ys zs e = append_cancel xs ys zs (ap (λ l. tail_of l) e)
  where
    tail_of : {A : Type 0} → List A → List A
    tail_of [] = []
    tail_of (y ∷ ys) = ys

module _ {B : Type 0} (lines : B → List Line) (place places : B → ℕ) where
  abbrev St : Type 0
  St = State (Option B) View

  abbrev M : Type 0
  M = Me (Option B) View

  abbrev R : St → Type 0
  R = Rule lines place places

  -- a load changes no word
  loaded : (s : St) (i : ℕ) (homes : _) (views : List View) → R record { words = s.words; homes = homes; views = views }
      → R record { words = set s.words i (get_or s.words i 0); homes = homes; views = views }
  loaded s i homes views r =
      subst (λ (ws : List ℕ). R record { words = ws; homes = homes; views = views }) (sym (set-get_or s.words i 0)) r

  restaged : (s : St) (r : R s) (me : ℕ) (v : View) (st : Stage)
      → get_elem? s.views me ≡ some v → living v ≡ 1 → living_at st ≡ 1 → ((k : ℕ) → queues_at k st ≡ queues k v)
      → Knows r.account (length s.homes) me st → ((k t : ℕ) → HasTicket k t st → HasTicket k t v.stage)
      → ((k t : ℕ) → HasTicket k t v.stage → HasTicket k t st) → ((k : ℕ) → IsOpenAt k v.stage → IsOpenAt k st)
      → R record { words = s.words; homes = s.homes; views = set s.views me (staged v st) }
  restaged s r me v st at lives lives' same known tickets back opens = let a = r.account in record {
    account = a;
    queue = queue_same lines place places a s r.queue me v (staged v st) at same known tickets back opens;
    tale = tale_same a a (length s.homes) s.views r.tale me v
        (staged v st) at (lives, refl, refl) (λ _. refl) (λ _. refl) (λ k near. r.tale.seen me k v at lives near);
    kin = kin_moves a a.drawn a.served a.holder a.published a.list_of (length s.homes) s.views r.kin me v
        (staged v st) at (lives, lives', refl, refl, refl) (λ i ls b. b) (λ i _. refl);
  }

  pub draws : (n id : ℕ) (me : M) (k : ℕ) → me.0.stage ≡ Free
      → k < n → Allows R n id me (32 * k) (λ x. (x + 1) % 2 ^ 64) (drew (step n (32 * k) 1 0 none) me)
  draws n id me k free near s r deep at fits =
      let a = r.account in
      let t : ℕ = a.drawn k in
      let w : View = staged me.0 (Waits k t) in
      let lives : living me.0 ≡ 1 = ap living_at free in
      let inside : k < length s.homes = omega arith in (
        w,
        keeps,
        tt,
        record {
          account = with_draw a k;
          queue = queue_draws lines place places a s r.queue id k me.0 at free inside;
          tale = tale_same a (with_draw a k) (length s.homes) s.views r.tale id me.0 w at
              (lives, refl, refl) (λ _. refl) (λ _. refl) (λ i l. r.tale.seen id i me.0 at lives l);
          kin = kin_moves a (with_draw a k).drawn a.served a.holder a.published a.list_of
              (length s.homes) s.views r.kin id me.0 w at (lives, refl, refl, refl, refl) (λ i ls b. b) (λ i _. refl);
        },
        (
          refl,
          λ j e. let same : k ≡ j = omega arith in subst (λ (i : ℕ). (u : ℕ) × (w ≡ staged me.0 (Waits i u))
              × (get_or s.words (32 * k) 0 ≡ u % 2 ^ 64)) same (t, refl, r.queue.tickets k inside),
        ),
      )

  pub looks : (n id : ℕ) (me : M) (k t : ℕ) → me.0.stage ≡ Waits k t
      → Allows R n id me (32 * k + 1) (λ x. x) (looked (step n (32 * k + 1) 0 0 none) me)
  looks n id me k t waits s r deep at fits =
      let a = r.account in
      let i : ℕ = 32 * k + 1 in
      let x : ℕ = get_or s.words i 0 in
      let lives : living me.0 ≡ 1 = ap living_at waits in
      let known : Knows a (length s.homes) id (Waits k t) =
      subst (Knows a (length s.homes) id) waits (r.queue.stages id me.0 at) in
      dite (ℕ_discrete x (t % 18446744073709551616))
      (λ hit. let near = near_tickets lines place places a s r.queue id k t me.0 at
      (subst (HasTicket k t) (sym waits) (refl, refl)) in
      let served : a.served k ≡ t = one_turn (a.served k) t 18446744073709551616 near.0
      (let h = near.1 in omega arith) (sym (r.queue.serving k known.0) ∙ hit) in (
        staged me.0 (Turn k t),
        keeps,
        tt,
        loaded s i s.homes (set s.views id (staged me.0 (Turn k t)))
            (restaged s r id me.0 (Turn k t) at lives refl (λ j. sym (ap (queues_at j) waits)) (known, sym served)
            (λ j u h. subst (HasTicket j u) (sym waits) h)
            (λ j u h. subst (HasTicket j u) waits h) (λ j is. absurd (subst (IsOpenAt j) waits is))),
        (
          refl,
          λ j u is. let same : (k, t) ≡ (j, u) = ap (ticket_or 0) (sym waits ∙ is) in (
            (λ _. ap (λ (z : ℕ × ℕ). staged me.0 (Turn z.0 z.1)) same),
            λ not. absurd (not (hit ∙ ap (λ (z : ℕ × ℕ). z.1 % 18446744073709551616) same)),
          ),
        ),
      ))
      (λ miss. (
        me.0,
        keeps,
        tt,
        loaded s i s.homes (set s.views id me.0) (restaged s r id me.0 me.0.stage at lives lives
            (λ j. refl) (r.queue.stages id me.0 at) (λ j u h. h) (λ j u h. h) (λ j h. h)),
        (
          refl,
          λ j u is. let same : (k, t) ≡ (j, u) = ap (ticket_or 0) (sym waits ∙ is) in
              ((λ hit. absurd (miss (hit ∙ ap (λ (z : ℕ × ℕ). z.1 % 18446744073709551616) (sym same)))), λ _. refl),
        ),
      ))

  pub opens : (n id : ℕ) (me : M) (k t : ℕ) → me.0.stage ≡ Turn k t
      → Allows R n id me (32 * k + 1) (λ x. x) (opened lines place places (step n (32 * k + 1) 0 0 none) me)
  opens n id me k t turn s r deep at fits =
      let a = r.account in let i : ℕ = 32 * k + 1 in let lives : living me.0 ≡ 1 = ap living_at turn in
      let known : Knows a (length s.homes) id (Turn k t) = subst (Knows a (length s.homes) id) turn (r.queue.stages id me.0 at) in
      let near = known.0.0 in
      let lies = r.queue.home k near (at_home lines place places a s r.queue id k t me.0 at turn) in
      let b : B = lies.0 in
      let w : View = after_open me.0 k t (lines b) in (
        w,
        takes k (Some b),
        lies.1,
        loaded s i (set s.homes k none) (set s.views id w) record {
          account = with_open a k id;
          queue = queue_opens lines place places a s r.queue id k t me.0 b at turn lies.1;
          tale = subst (λ (m : ℕ). AreListed (with_open a k id) m (set s.views id w))
              (sym (length-set s.homes k none)) (tale_same a (with_open a k id)
              (length s.homes) s.views r.tale id me.0 w at (lives, refl, refl) (λ _. refl) (λ _. refl)
              (λ j l. sees_one a (length s.homes) s.views r.tale id k j me.0 (lines b) at lives l (λ e. subst (λ (z :
              ℕ). Begins (lines b) (a.published z)) (sym e) ([], sym lies.4 ∙ sym (append-nil (lines b))))));
          kin = subst (λ (m : ℕ). AreKin (with_open a k id) m (set s.views id w)) (sym (length-set s.homes k none))
              (kin_moves a a.drawn a.served (with_open a k id).holder a.published a.list_of (length s.homes)
              s.views r.kin id me.0 w at (lives, refl, refl, refl, refl) (λ j ls c. c) (λ j _. refl));
        },
        (λ j u is. let same : (k, t) ≡ (j, u) = ap (ticket_or 0) (sym turn ∙ is) in
            subst (λ (z : ℕ × ℕ). (c : B) × ((k, Some b) ∷ me.1 ≡ (z.0, Some c) ∷ me.1) × (w ≡ after_open me.0 z.0 z.1
            (lines c)) × (place c ≡ z.0) × (places c ≡ n) × Begins (seen_of z.0 me.0.seen) (lines c)) same (
              b,
              refl,
              refl,
              lies.2,
              lies.3 ∙ deep,
              subst (Begins (seen_of k me.0.seen)) (sym lies.4) (r.tale.seen id k me.0 at lives near),
            )),
      )

  pub writes : (n id : ℕ) (me : M) (k t : ℕ) (base more : List Line) (b : B)
      → me.0.stage ≡ Open k t base [] → me.1 ≡ (k, Some b) ∷ [] → lines b ≡ base ++ more → AllOf me.0.number more
      → Allows R n id me (32 * k + 1) (λ x. x) (wrote lines (step n (32 * k + 1) 0 0 none) me)
  writes n id me k t base more b is_open held grown of_me s r deep at fits =
      let a = r.account in
      let i : ℕ = 32 * k + 1 in
      let lives : living me.0 ≡ 1 = ap living_at is_open in
      let w : View = staged me.0 (Open k t base more) in
      let known : Knows a (length s.homes) id (Open k t base []) =
      subst (Knows a (length s.homes) id) is_open (r.queue.stages id me.0 at) in
      let of_id : AllOf id more = subst (λ (j : ℕ). AllOf j more) (r.tale.numbers id me.0 at lives) of_me in (
        w,
        keeps,
        tt,
        loaded s i s.homes (set s.views id w) (restaged s r id me.0 (Open k t base more) at lives refl
            (λ j. sym (ap (queues_at j) is_open)) (known.0, known.1, known.2, known.3, of_id)
            (λ j u h. subst (HasTicket j u) (sym is_open) h)
            (λ j u h. subst (HasTicket j u) is_open h) (λ j is. subst (IsOpenAt j) is_open is)),
        (
          refl,
          λ j u old new c is has is_new.
              let same : (k, t) ≡ (j, u) = ap (ticket_or 0) (sym is_open ∙ is) in
              let same_base : base ≡ old = ap (base_or []) (sym is_open ∙ is) in
              let this : b ≡ c = some_item k j b c (sym held ∙ has) in
              let same_more : more ≡ new = append_cancel base more new
              (sym grown ∙ (ap lines this ∙ (is_new ∙ ap (λ z. z ++ new) (sym same_base)))) in
              λ z. staged me.0 (Open (same z).0 (same z).1 (same_base z) (same_more z)),
        ),
      )

  raises_from : (n id : ℕ) (v : View) (k t : ℕ) (base more : List Line) (b : B)
      → v.stage ≡ Open k t base more → place b ≡ k → places b ≡ n → lines b ≡ base ++ more
      → Allows R n id (v, (k, Some b) ∷ []) (32 * k + 1)
      (λ x. (x + 1) % 2 ^ 64) (raised (step n (32 * k + 1) 1 0 none) (v, (k, Some b) ∷ []))
  raises_from n id v k t base more b is_open is_place is_places is_lines s r deep at fits =
      let a = r.account in
      let lives : living v ≡ 1 = ap living_at is_open in
      let w : View = after_raise v k base more in
      let a' = with_raise a k id base more in
      let known : Knows a (length s.homes) id (Open k t base more) =
      subst (Knows a (length s.homes) id) is_open (r.queue.stages id v at) in
      let near = known.0.0 in
      let same_base = known.3 in
      let of_id = known.4 in
      let len = length-set s.homes k (some (Some b)) in (
        w,
        gives,
        tt,
        record {
          account = a';
          queue = queue_raises lines place places a s r.queue id k t base more v b at is_open is_place
              (is_places ∙ sym deep) is_lines;
          tale = subst (λ (m : ℕ). AreListed a' m (set s.views id w)) (sym len) (tale_raises a
              (length s.homes) s.views r.tale id k base more near same_base of_id v w at lives refl refl refl);
          kin = subst (λ (m : ℕ). AreKin a' m (set s.views id w)) (sym len) (kin_moves a a.drawn a'.served a'.holder
              a'.published a'.list_of (length s.homes) s.views r.kin id v w at (lives, refl, refl, refl, refl)
              (still_begins a (length s.homes) s.views r.tale id k base more near same_base of_id)
              (list_else a (length s.homes) s.views r.tale id k base more near same_base of_id));
        },
        (
          refl,
          λ j u old new is.
              let same : (k, t) ≡ (j, u) = ap (ticket_or 0) (sym is_open ∙ is) in
              let same_base : base ≡ old = ap (base_or []) (sym is_open ∙ is) in
              let same_more : more ≡ new = ap (more_or []) (sym is_open ∙ is) in
              λ z. after_raise v (same z).0 (same_base z) (same_more z),
        ),
      )

  pub raises : (n id : ℕ) (me : M) (k t : ℕ) (base more : List Line) (b : B)
      → me.0.stage ≡ Open k t base more → me.1 ≡ (k, Some b) ∷ [] → place b ≡ k → places b ≡ n → lines b ≡ base ++ more
      → Allows R n id me (32 * k + 1) (λ x. (x + 1) % 2 ^ 64) (raised (step n (32 * k + 1) 1 0 none) me)
  raises n id me k t base more b is_open held is_place is_places is_lines =
      subst (λ (cs : List (ℕ × Option B)). Allows R n id
      (me.0, cs) (32 * k + 1) (λ x. (x + 1) % 2 ^ 64) (raised (step n (32 * k + 1) 1 0 none) (me.0, cs))) (sym held)
      (raises_from n id me.0 k t base more b is_open is_place is_places is_lines)

  -- the seat of the root is the first one
  pub at_root : (s : St) (r : R s) (id : ℕ) (v : View) → get_elem? s.views id ≡ some v → v.number ≡ 0 → living v ≡ 1 → id ≡ 0
  at_root s r id v at number lives = sym (r.tale.numbers id v at lives) ∙ number

  pub forks : (id : ℕ) (v : View) → v.number ≡ 0 → living v ≡ 1
      → length v.before < 2 ^ 32 - 2 → Splits R id v (after_split v) (split_off v)
  forks id v number lives few s r at =
      let a = r.account in let n : ℕ = length s.homes in let first = at_root s r id v at number lives in
      let at0 : get_elem? s.views 0 ≡ some v = subst (λ (i : ℕ). get_elem? s.views i ≡ some v) first at in
      let root = r.kin.root v at0 in
      let same : length v.before ≡ length a.before = ap (λ (l : List (List ℕ)). length l) root.1 in
      let c = r.kin.counted in
      let len = length-set s.views 0 (after_split v) in
      let q = queue_same lines place places a s r.queue 0 v
      (after_split v) at0 (λ _. refl) (r.queue.stages 0 v at0) (λ _ _ h. h) (λ _ _ h. h) (λ _ h. h) in
      let q' = queue_admits lines place places a record {
        words = s.words;
        homes = s.homes;
        views = set s.views 0 (after_split v);
      } q (split_off v) refl (omega arith) in
      subst (λ (i : ℕ). R record {
        words = s.words;
        homes = s.homes;
        views = set s.views i (after_split v) ++ split_off v ∷ [];
      }) (sym first) record {
        account = with_split a;
        queue = requeued lines place places a (with_split a).before (with_split a).joined record {
          words = s.words;
          homes = s.homes;
          views = set s.views 0 (after_split v) ++ split_off v ∷ [];
        } q';
        tale = tale_admits (with_split a) n (set s.views 0 (after_split v))
            (tale_same a (with_split a) n s.views r.tale 0 v
            (after_split v) at0 (lives, refl, refl) (λ _. refl) (λ _. refl) (λ k l. r.tale.seen 0 k v at0 lives l))
            (split_off v) (omega arith) refl refl;
        kin = kin_splits a n s.views r.kin v at0;
      }

  pub merges : (id : ℕ) (v : View) (other : ℕ) (u : View)
      → v.number ≡ 0 → living v ≡ 1 → u.stage ≡ Free → Joins R id v other u (after_join v u) spent_view
  merges id v other u number lives free s r at apart there =
      let a = r.account in
      let n : ℕ = length s.homes in
      let first = at_root s r id v at number lives in
      let both : View = after_join v u in
      let at0 : get_elem? s.views 0 ≡ some v = subst (λ (i : ℕ). get_elem? s.views i ≡ some v) first at in
      let other0 : other ≢ 0 = λ e. apart (e ∙ sym first) in
      let lives' : living u ≡ 1 = ap living_at free in
      let there0 : get_elem? (set s.views 0 both) other ≡ some u =
      subst (λ (i : ℕ). get_elem? (set s.views i both) other ≡ some u) first there in
      let there1 : get_elem? s.views other ≡ some u = sym (set_else s.views 0 other both other0) ∙ there0 in
      let q = queue_same lines place places a s r.queue 0 v both at0
      (λ _. refl) (r.queue.stages 0 v at0) (λ _ _ h. h) (λ _ _ h. h) (λ _ h. h) in
      let s' : St = record { words = s.words; homes = s.homes; views = set s.views 0 both } in
      let q' = queue_same lines place places a s' q other u spent_view there0
      (λ k. sym (ap (queues_at k) free)) tt (λ _ _ h. absurd h)
      (λ k t h. absurd (subst (HasTicket k t) free h)) (λ k h. absurd (subst (IsOpenAt k) free h)) in
      subst (λ (i : ℕ). R record {
        words = s.words;
        homes = s.homes;
        views = set (set s.views i both) other spent_view;
      }) (sym first) record {
        account = with_join a u;
        queue = requeued lines place places a (with_join a u).before (with_join a u).joined record {
          words = s.words;
          homes = s.homes;
          views = set (set s.views 0 both) other spent_view;
        } q';
        tale = tale_spends (with_join a u) n (set s.views 0 both)
            (tale_same a (with_join a u) n s.views r.tale 0 v both at0
            (lives, refl, refl) (λ _. refl) (λ _. refl) (λ k l. r.tale.seen 0 k v at0 lives l)) other spent_view refl;
        kin = kin_joins a n s.views r.tale r.kin v u other at0 there1 other0 lives';
      }

  pub learns : (n id : ℕ) (me : M) → living me.0 ≡ 1 → Allows R n id me 0 (λ x. x) (learned (step n 0 0 0 none) me)
  learns n id me lives s r deep at fits = (
    me.0,
    keeps,
    tt,
    loaded s 0 s.homes (set s.views id me.0) (subst (λ (vs : List View).
        R record { words = s.words; homes = s.homes; views = vs }) (sym (set_again s.views id me.0 at)) r),
    (
      refl,
      λ number _.
          let first = at_root s r id me.0 at number lives in
          let root = r.kin.root me.0 (subst (λ (i : ℕ). get_elem? s.views i ≡ some me.0) first at) in
          subst (λ (z : List (List ℕ) × List Joined). AllByRecursion
          (λ (x : Joined). WasTold z.0 z.1 x.listed.number x.told) z.1) (λ i. (sym root.1 i, sym root.2 i))
          (all_map (IsKept r.account (length s.homes) s.views) (λ (x : Joined). WasTold
          r.account.before r.account.joined x.listed.number x.told) r.account.joined (λ x h. h.told) r.kin.kept),
    ),
  )
