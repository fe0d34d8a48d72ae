use Rattle.std.proofs.Common.{◌≡◌, Bor, List, ℕ, map, true, false, refl, sym, ap, ◌∙◌, string_bytes, find}
use Rattle.std.specs.List.{list_any}
use Rattle.std.specs.Str.{bytes_eq}
use Rattle.slnf_plan.specs.declared.refusal.Cause.TheVariants.{UnknownKey}
use Rattle.slnf_plan.specs.Refusals.{refuse}
use Rattle.slnf_plan.specs.Tables.{is_unlisted}
use Rattle.slnf_plan.proofs.Keys.{names-members_view, known_goes_on, known_stops, fails_under}
use Rattle.slnf_plan.proofs.kinds.known.Goals as goal

pub loop-key-init : goal.loop-key-init
loop-key-init c =
    ap (λ ks. find (is_unlisted (map (λ (l : Bor (List ℕ)). l.now) c.args.listed.now)) ks)
    (ap (λ ks. map string_bytes ks) (c.into_iter-key-iterator.ensures.into_iter_gives ∙ c.keys-key-items.ensures.rest)
    ∙ sym (names-members_view c.args.table.now.entries))

pub loop-key-preserved : goal.loop-key-preserved
loop-key-preserved c =
    let listed : list_any (λ (l : Bor (List ℕ)). bytes_eq l.now (string_bytes c.in-Some.key.now)) c.args.listed.now
    ≡ true = rw (← c.as_str.ensures.value) (sym c.is_listed.ensures ∙ c.if-not-is_listed.false) in
    known_goes_on c.args.listed.now c.in-Some.key.now
    c.loop-key.key-iterator c.next.new.self _ c.in-Some.ensures.steps listed c.loop-key.invariant

pub returns-then-not-is_listed : goal.returns-then-not-is_listed
returns-then-not-is_listed c =
    let unlisted : list_any (λ (l : Bor (List ℕ)). bytes_eq l.now (string_bytes c.in-Some.key.now)) c.args.listed.now
    ≡ false = rw (← c.as_str.ensures.value) (sym c.is_listed.ensures ∙ c.if-not-is_listed.true) in
    let found = known_stops c.args.listed.now c.in-Some.key.now
    c.loop-key.key-iterator c.next.new.self _ c.in-Some.ensures.steps unlisted c.loop-key.invariant in
    rw found (fails_under (string_bytes c.in-Some.key.now) c.of.result c.under.result
    (refuse UnknownKey) (rw (← c.as_str-then-not-is_listed.ensures.value) c.under.ensures) (rw c.of.ensures refl))
