-- One reply more of several.
use Rattle.std.proofs.Common.{◌≡◌, inl, inr, ℕ, suc, ◌+◌, ◌<◌, ◌≤◌, Bool, true, false, Option, Some, None, List, [], ◌∷◌, ◌++◌, drop, get_or, length, slice_get, refl, sym, ap, ◌∙◌, subst, arith, append_assoc, append-nil, if◌then◌else◌, nat_le, eq-eqb, ne_eqb}
use Rattle.std.proofs.lemmas.Bool.Decides.{nat_tests}
use Rattle.std.proofs.lemmas.List.{length_push, drop_more}
use Rattle.std.proofs.Math.ListN.{drop_of_length-le}
use Rattle.slnf_access.specs.declared.requests.Entry.{Entry}
use Rattle.slnf_access.specs.declared.requests.Ask.{Ask}
use Rattle.slnf_access.specs.declared.requests.Reply.{Reply}
use Rattle.slnf_access.specs.Map.{CanReply}
use Rattle.slnf_run.specs.Jobs.{Job, by_rounds, is_stop, wanted_in}
use Rattle.slnf_instance.specs.Items.{Workload}
use Rattle.slnf_instance.specs.Hands.{is_last, is_spent}
use Rattle.slnf_instance.specs.Works.{IsLeftOf, Stands}
use Rattle.slnf_instance.specs.Instances.{Acting, ask_by, StandsBy, CanAnswer, IsAnswer}
use Rattle.slnf_threads.specs.Takes.{IsWithin, AreAnswers, CanTake}
use Rattle.slnf_threads.specs.Worked.{IsWorked}

clash : (b : Bool) → b ≡ true → b ≡ false → ⊥
clash b h k = cc

-- an actor to which an access is left isn't stopped
not_stopped : (stop : Option ℕ) (made more : ℕ) → IsWithin stop (made + suc more) → is_stop stop made ≡ false
not_stopped None made more h = refl
not_stopped (Some stop) made more h = ne_eqb made stop (λ q. omega arith)

stop_is : (stop : Option ℕ) (n made : ℕ) → stop ≡ Some n → made ≡ n → is_stop stop made ≡ true
stop_is stop n made e q = ap (λ o. is_stop o made) e ∙ eq-eqb made n q

-- what is left to it
pub left_of_stands : {F : Type 0} (job : Job F) (own : List Entry) (left : Option ℕ) (from : ℕ) (flights : List (Option F))
    (rest : List Ask) (verdicts : _) → Stands job own left from flights rest verdicts →
    is_stop job.stop (length own) ≡ false → IsLeftOf job.stop left (length own)
left_of_stands job own left from flights rest verdicts (inl (inl w)) h = w.left_is
left_of_stands job own left from flights rest verdicts (inl (inr t)) h = t.left_is
left_of_stands job own left from flights rest verdicts (inr (inl t)) h =
    absurd (clash (is_stop job.stop (length own))
    (stop_is job.stop (length t.before + 1) (length own) t.stop (ap length t.whole ∙ length_push t.before t.last)) h)
left_of_stands job own left from flights rest verdicts (inr (inr n)) h =
    absurd (clash (is_stop job.stop (length own)) (stop_is job.stop 0 (length own) n.stop (ap length n.none)) h)

unspent : (stop left : Option ℕ) (made : ℕ) → IsLeftOf stop left made → is_spent left ≡ false
unspent None None made h = refl
unspent None (Some left) made h = absurd h
unspent (Some stop) None made h = absurd h
unspent (Some stop) (Some left) made h = ne_eqb left 0 (λ q. let l = h.1 in omega arith)

not_last : (stop left : Option ℕ) (made more : ℕ) → IsLeftOf stop left made → IsWithin stop (made + suc (suc more)) →
    is_last left ≡ false
not_last None None made more h k = refl
not_last None (Some left) made more h k = absurd h
not_last (Some stop) None made more h k = absurd h
not_last (Some stop) (Some left) made more h k = go (let e = h.0 in omega arith)
  where
    go : 1 < left → nat_le left 1 ≡ false
    go l = grind (arith, nat_tests)

module _ {G F : Type 0} (work : G → Workload F) where
  -- The actor is at its next reply.
  pub record IsAtReply (job : Job F) (own : List Entry) (i : Acting G F) (reply : Reply) (replies : List Reply)
      (more : List Entry) : Type 0 where
    pub ask : Ask
    pub asks : List Ask
    pub e : Entry
    pub es : List Entry
    pub rest_is : i.rest ≡ ask ∷ asks
    pub more_is : more ≡ e ∷ es
    pub asked : ask_by i ≡ Some ask
    pub can : CanReply ask.request reply
    pub answers : IsAnswer (Some ask) reply e
    pub others : AreAnswers asks replies es
    pub left_is : IsLeftOf job.stop i.left (length own)

  pub at_reply : (job : Job F) (own : List Entry) (i : Acting G F) (reply : Reply) (replies : List Reply)
      (more : List Entry) → CanTake work job own i (reply ∷ replies) more → IsAtReply job own i reply replies more
  at_reply job own i reply replies more c = go i.rest more refl c.answers
    where
      left_is : IsLeftOf job.stop i.left (length own)
      left_is = left_of_stands job own i.left i.from i.flights i.rest i.verdicts c.stands.stands
          (not_stopped job.stop (length own) (length replies) c.within)

      asked : (ask : Ask) (asks : List Ask) → i.rest ≡ ask ∷ asks → ask_by i ≡ Some ask
      asked ask asks q =
          ap (λ (t : Bool). if t then None else slice_get i.rest 0) (unspent job.stop i.left (length own) left_is)
          ∙ ap (λ l. slice_get l 0) q

      go : (rest : List Ask) (more : List Entry) → i.rest ≡ rest → AreAnswers rest (reply ∷ replies) more →
          IsAtReply job own i reply replies more
      go rest [] q a = absurd a
      go [] (e ∷ es) q a = absurd a
      go (ask ∷ asks) (e ∷ es) q a = record {
        ask = ask;
        asks = asks;
        e = e;
        es = es;
        rest_is = q;
        more_is = refl;
        asked = asked ask asks q;
        can = a.0;
        answers = a.1;
        others = a.2;
        left_is = left_is;
      }

  pub can_answer : (job : Job F) (own : List Entry) (i : Acting G F) (reply : Reply) (replies : List Reply)
      (more : List Entry) → CanTake work job own i (reply ∷ replies) more → CanAnswer (ask_by i) reply
  can_answer job own i reply replies more c =
      let at : IsAtReply job own i reply replies more = at_reply job own i reply replies more c in
      subst (λ o. CanAnswer o reply) (sym at.asked) at.can

  -- The actor goes on: what it has made so far, and then what is still to come, is all.
  pub record GoesOn (job : Job F) (own more : List Entry) (i : Acting G F) (replies : List Reply) : Type 0 where
    pub so_far : List Entry
    pub rest : List Entry
    pub whole : so_far ++ rest ≡ own ++ more
    pub can : CanTake work job so_far i replies rest
    pub worked : IsWorked job so_far rest → IsWorked job own more

  abbrev pub GoOn : Acting G F → List Reply → Acting G F → List Reply → Type 0
  GoOn first all i replies =
      (job : Job F) (own more : List Entry) → CanTake work job own first all more → GoesOn job own more i replies

  pub goes_on : (i : Acting G F) (replies : List Reply) → GoOn i replies i replies
  goes_on i replies job own more c =
      record { so_far = own; rest = more; whole = refl; can = c; worked = λ h. h }

  -- What taking a reply tells.
  pub record IsTaken (old new : Acting G F) (reply : Reply) (wanted : Option Ask) : Type 0 where
    pub asks : wanted ≡ ask_by old
    pub wanted_is : (job : Job F) (own : List Entry) → StandsBy work job own old → wanted ≡ wanted_in by_rounds job own
    pub stands : (job : Job F) (own : List Entry) (e : Entry) → StandsBy work job own old →
        IsAnswer (ask_by old) reply e → StandsBy work job (own ++ e ∷ []) new
    pub round : (a b : Ask) (rest : List Ask) → old.rest ≡ a ∷ b ∷ rest → is_last old.left ≡ false →
        new.rest ≡ b ∷ rest

  others_next : (job : Job F) (own : List Entry) (old new : Acting G F) (reply : Reply) (wanted : Option Ask)
      (a : Ask) (asks : List Ask) (replies : List Reply) (es : List Entry) → IsTaken old new reply wanted →
      IsLeftOf job.stop old.left (length own) → old.rest ≡ a ∷ asks →
      IsWithin job.stop (length own + suc (length replies)) → AreAnswers asks replies es →
      AreAnswers new.rest replies es
  others_next job own old new reply wanted a asks [] [] t l q w h = tt
  others_next job own old new reply wanted a asks [] (e ∷ es) t l q w h = absurd h
  others_next job own old new reply wanted a asks (r ∷ replies) [] t l q w h = absurd h
  others_next job own old new reply wanted a [] (r ∷ replies) (e ∷ es) t l q w h = absurd h
  others_next job own old new reply wanted a (b ∷ asks) (r ∷ replies) (e ∷ es) t l q w h =
      subst (λ rest. AreAnswers rest (r ∷ replies) (e ∷ es))
      (sym (t.round a b asks q (not_last job.stop old.left (length own) (length replies) l w))) h

  within_next : (stop : Option ℕ) (made : ℕ) (more next : ℕ) → next ≡ made + 1 → IsWithin stop (made + suc more) →
      IsWithin stop (next + more)
  within_next None made more next q h = tt
  within_next (Some stop) made more next q h = omega arith

  next_can : (job : Job F) (own : List Entry) (old new : Acting G F) (reply : Reply) (replies : List Reply)
      (more : List Entry) (wanted : Option Ask) → IsTaken old new reply wanted →
      (c : CanTake work job own old (reply ∷ replies) more) → GoesOn job own more new replies
  next_can job own old new reply replies more wanted t c =
      let at : IsAtReply job own old reply replies more = at_reply job own old reply replies more c in
      let answers : IsAnswer (ask_by old) reply at.e = subst (λ o. IsAnswer o reply at.e) (sym at.asked) at.answers in
      let wants : wanted_in by_rounds job own ≡ Some at.ask =
      sym (t.wanted_is job own c.stands) ∙ (t.asks ∙ at.asked) in
      let mine : IsAnswer (wanted_in by_rounds job own) at.e.reply at.e =
      subst (λ o. IsAnswer o at.e.reply at.e) (sym wants) (at.answers.0, at.answers.1, refl) in
      record {
        so_far = own ++ at.e ∷ [];
        rest = at.es;
        whole = append_assoc own (at.e ∷ []) at.es ∙ ap (λ l. own ++ l) (sym at.more_is);
        can = record {
          stands = t.stands job own at.e c.stands answers;
          answers = others_next job own old new reply wanted at.ask at.asks replies at.es t at.left_is at.rest_is
              c.within at.others;
          within = within_next job.stop (length own) (length replies) (length (own ++ at.e ∷ []))
              (length_push own at.e) c.within;
        };
        worked = λ h. subst (IsWorked job own) (sym at.more_is) (mine, h);
      }

  pub goes_next : (first old new : Acting G F) (all : List Reply) (k : ℕ) (d : Reply) (wanted : Option Ask) →
      (k < length all) → IsTaken old new (get_or all k d) wanted → GoOn first all old (drop k all) →
      GoOn first all new (drop (k + 1) all)
  goes_next first old new all k d wanted l t h job own more c =
      let now : GoesOn job own more old (drop k all) = h job own more c in
      let here : CanTake work job now.so_far old (get_or all k d ∷ drop (k + 1) all) now.rest =
      subst (λ rs. CanTake work job now.so_far old rs now.rest) (drop_more all k d l) now.can in
      let next : GoesOn job now.so_far now.rest new (drop (k + 1) all) =
      next_can job now.so_far old new (get_or all k d) (drop (k + 1) all) now.rest wanted t here in
      record {
        so_far = next.so_far;
        rest = next.rest;
        whole = next.whole ∙ now.whole;
        can = next.can;
        worked = λ w. now.worked (next.worked w);
      }

  no_more : (asks : List Ask) (es : List Entry) → AreAnswers asks [] es → es ≡ []
  no_more asks [] h = refl
  no_more asks (e ∷ es) h = absurd h

  pub all_taken : (first last : Acting G F) (all : List Reply) (k : ℕ) → length all ≤ k →
      GoOn first all last (drop k all) → (job : Job F) (own more : List Entry) → CanTake work job own first all more →
      StandsBy work job (own ++ more) last × IsWorked job own more
  all_taken first last all k l h job own more c =
      let now : GoesOn job own more last (drop k all) = h job own more c in
      let none : AreAnswers last.rest [] now.rest =
      subst (λ rs. AreAnswers last.rest rs now.rest) (drop_of_length-le all l) now.can.answers in
      let empty : now.rest ≡ [] = no_more last.rest now.rest none in
      let whole : now.so_far ≡ own ++ more =
      sym (append-nil now.so_far) ∙ (ap (λ l. now.so_far ++ l) (sym empty) ∙ now.whole) in (
        subst (λ l. StandsBy work job l last) whole now.can.stands,
        now.worked (subst (IsWorked job now.so_far) (sym empty) tt),
      )

  -- the next reply can be taken
  pub next_answers : (first i : Acting G F) (all : List Reply) (k : ℕ) (d : Reply) → k < length all →
      GoOn first all i (drop k all) → (job : Job F) (own more : List Entry) → CanTake work job own first all more →
      CanAnswer (ask_by i) (get_or all k d)
  next_answers first i all k d l h job own more c =
      let now : GoesOn job own more i (drop k all) = h job own more c in
      can_answer job now.so_far i (get_or all k d) (drop (k + 1) all) now.rest
      (subst (λ rs. CanTake work job now.so_far i rs now.rest) (drop_more all k d l) now.can)
