-- the reply is the map's, or not, and the map goes on
use Rattle.std.proofs.Common.{◌≡◌, ◌+◌, ◌≤◌, nat_eq, rules, refl, arith, ap, sym, subst, ◌∙◌, true, false, IsTrue, get_or, None, take}
use Rattle.std.proofs.lemmas.Option.{slice_get-get_or}
use Rattle.std.specs.HashMap.{get}
use Rattle.slnf_access.specs.Map.{reply_to, cell_after, cell_of, key_of}
use Rattle.slnf_local.specs.Rules.{IsTrueReply}
use Rattle.slnf_rules.proofs.Growing.{no_entry, grown_more, breaks_at, made_more}
use Rattle.slnf_rules.proofs.replies.first_false_reply.Goals as goal

pub returns-then-not-is_true_reply : goal.returns-then-not-is_true_reply
returns-then-not-is_true_reply c =
    let es = c.args.entries.now in
    let n = c.loop-done.done in
    let e = get_or es n no_entry in
    let at = slice_get-get_or es n no_entry c.loop-done-test.true in
    let held : c.copied-held.result ≡ get nat_eq c.loop-done.map c.key-key.result.0 = search rules in
    let made : c.copied-held.result ≡ cell_of (key_of e.request) None (take n es) = held
    ∙ (c.loop-done.invariant.made c.key-key.result.0 ∙ ap (λ k. cell_of k None (take n es)) c.key-key.ensures) in
    breaks_at IsTrueReply es n _ e at c.loop-done.invariant.grown (λ yes.
    let no : c.is_true_reply.result ≡ false = c.if-not-is_true_reply.true in
    let told = c.is_true_reply.ensures.1 (yes ∙ sym (ap (reply_to e.request e.stamp) made)) in
    absurd (cc)) refl

pub loop-done-preserved : goal.loop-done-preserved
loop-done-preserved c =
    let es = c.args.entries.now in
    let n = c.loop-done.done in
    let e = get_or es n no_entry in
    let at = slice_get-get_or es n no_entry c.loop-done-test.true in
    let held : c.copied-held.result ≡ get nat_eq c.loop-done.map c.key-key.result.0 = search rules in
    let made : c.copied-held.result ≡ cell_of (key_of e.request) None (take n es) = held
    ∙ (c.loop-done.invariant.made c.key-key.result.0 ∙ ap (λ k. cell_of k None (take n es)) c.key-key.ensures) in
    record {
      upto = omega (arith, c.loop-done-test.true);
      grown = grown_more IsTrueReply es n e at c.loop-done.invariant.grown
          (c.is_true_reply.ensures.0 c.if-not-is_true_reply.false ∙ ap (reply_to e.request e.stamp) made);
      made = made_more es n e (get nat_eq c.loop-done.map) (get nat_eq c.hold.new.held) c.key-key.result.0
          c.leaves.result at c.loop-done.invariant.made c.key-key.ensures (c.leaves.ensures
          ∙ ap (cell_after e.request e.stamp) held) c.in_ok-hold.ensures;
    }
