-- The tests of requests, replies and order tell what they are to.
use Rattle.std.proofs.Common.{◌≡◌, ℕ, ◌^◌, ◌%◌, Bool, true, ◌&&◌, ◌==◌, nat_lt, nat_le, Option, Some, None, refl, ap, ap₂, subst, arith, eqb-true, eq-eqb, ltb-true}
use Rattle.std.proofs.lemmas.Bool.{and_parts, and_from, leb-true, le-leb, lt-ltb}
use Rattle.std.proofs.lemmas.Bool.Decides.{nat_tests}
use Rattle.slnf_access.specs.declared.requests.Entry.{Entry}
use Rattle.slnf_access.specs.declared.requests.Key.{Key}
use Rattle.slnf_access.specs.declared.requests.Value.{Value}
use Rattle.slnf_access.specs.declared.requests.Request.{Request}
use Rattle.slnf_access.specs.declared.requests.Request.TheVariants.{Read, PutIfAbsent, ReplaceIf, DeleteIf}
use Rattle.slnf_access.specs.declared.requests.Reply.{Reply}
use Rattle.slnf_access.specs.declared.requests.Reply.TheVariants.{Done, Found, Absent}
use Rattle.slnf_access.specs.Map.{key_of, reply_to, cell_of}
use Rattle.slnf_access.specs.Order.{IsInShard}
use Rattle.slnf_run.specs.Jobs.{last_of}
use Rattle.slnf_local.specs.Rules.{ComesAfter, IsOrderly, IsTrueReply}
use Rattle.slnf_local.specs.Tests.{same_request, same_reply, comes_after, is_orderly, is_true_reply}
use Rattle.slnf_local.proofs.First.{Decides}

same_key : (a b : Key) → (a.0 == b.0) ≡ true → a ≡ b
same_key a b h = ap key (eqb-true a.0 b.0 h)
  where
    key : ℕ → Key
    key number = record { 0 = number }

same_value : (v w : Value) → (v.0 == w.0) ≡ true → v ≡ w
same_value v w h = ap value (eqb-true v.0 w.0 h)
  where
    value : ℕ → Value
    value number = record { 0 = number }

-- requests that pass the test are one
pub same_request_tells : (a b : Request) → same_request a b ≡ true → a ≡ b
same_request_tells (Read a) (Read b) h = ap Read (same_key a b h)
same_request_tells (Read a) (PutIfAbsent b w) h = absurd (cc)
same_request_tells (Read a) (ReplaceIf b n w) h = absurd (cc)
same_request_tells (Read a) (DeleteIf b n) h = absurd (cc)
same_request_tells (PutIfAbsent a v) (Read b) h = absurd (cc)
same_request_tells (PutIfAbsent a v) (PutIfAbsent b w) h =
    let p : ((a.0 == b.0) ≡ true) × ((v.0 == w.0) ≡ true) = and_parts (a.0 == b.0) (v.0 == w.0) h in
    ap₂ PutIfAbsent (same_key a b p.0) (same_value v w p.1)
same_request_tells (PutIfAbsent a v) (ReplaceIf b n w) h = absurd (cc)
same_request_tells (PutIfAbsent a v) (DeleteIf b n) h = absurd (cc)
same_request_tells (ReplaceIf a m v) (Read b) h = absurd (cc)
same_request_tells (ReplaceIf a m v) (PutIfAbsent b w) h = absurd (cc)
same_request_tells (ReplaceIf a m v) (ReplaceIf b n w) h =
    let p : ((a.0 == b.0) ≡ true) × ((m == n && v.0 == w.0) ≡ true) =
    and_parts (a.0 == b.0) (m == n && v.0 == w.0) h in
    let q : ((m == n) ≡ true) × ((v.0 == w.0) ≡ true) = and_parts (m == n) (v.0 == w.0) p.1 in
    subst (λ k. ReplaceIf a m v ≡ ReplaceIf k n w) (same_key a b p.0)
    (ap₂ (ReplaceIf a) (eqb-true m n q.0) (same_value v w q.1))
same_request_tells (ReplaceIf a m v) (DeleteIf b n) h = absurd (cc)
same_request_tells (DeleteIf a m) (Read b) h = absurd (cc)
same_request_tells (DeleteIf a m) (PutIfAbsent b w) h = absurd (cc)
same_request_tells (DeleteIf a m) (ReplaceIf b n w) h = absurd (cc)
same_request_tells (DeleteIf a m) (DeleteIf b n) h =
    let p : ((a.0 == b.0) ≡ true) × ((m == n) ≡ true) = and_parts (a.0 == b.0) (m == n) h in
    ap₂ DeleteIf (same_key a b p.0) (eqb-true m n p.1)

itself : (n : ℕ) → (n == n) ≡ true
itself n = eq-eqb n n refl

request_itself : (a : Request) → same_request a a ≡ true
request_itself (Read a) = itself a.0
request_itself (PutIfAbsent a v) = and_from (a.0 == a.0) (v.0 == v.0) (itself a.0) (itself v.0)
request_itself (ReplaceIf a m v) =
    and_from (a.0 == a.0) (m == m && v.0 == v.0) (itself a.0) (and_from (m == m) (v.0 == v.0) (itself m) (itself v.0))
request_itself (DeleteIf a m) = and_from (a.0 == a.0) (m == m) (itself a.0) (itself m)

-- and one request passes it
pub request_same : (a b : Request) → a ≡ b → same_request a b ≡ true
request_same a b h = subst (λ c. same_request a c ≡ true) h (request_itself a)

same_reply_tells : (a b : Reply) → same_reply a b ≡ true → a ≡ b
same_reply_tells (Done m) (Done n) h = ap Done (eqb-true m n h)
same_reply_tells (Done m) (Found w n) h = absurd (cc)
same_reply_tells (Done m) Absent h = absurd (cc)
same_reply_tells (Found v m) (Done n) h = absurd (cc)
same_reply_tells (Found v m) (Found w n) h =
    let p : ((v.0 == w.0) ≡ true) × ((m == n) ≡ true) = and_parts (v.0 == w.0) (m == n) h in
    ap₂ Found (same_value v w p.0) (eqb-true m n p.1)
same_reply_tells (Found v m) Absent h = absurd (cc)
same_reply_tells Absent (Done n) h = absurd (cc)
same_reply_tells Absent (Found w n) h = absurd (cc)
same_reply_tells Absent Absent h = refl

reply_itself : (a : Reply) → same_reply a a ≡ true
reply_itself (Done m) = itself m
reply_itself (Found v m) = and_from (v.0 == v.0) (m == m) (itself v.0) (itself m)
reply_itself Absent = refl

reply_same : (a b : Reply) → a ≡ b → same_reply a b ≡ true
reply_same a b h = subst (λ c. same_reply a c ≡ true) h (reply_itself a)

pub true_reply_decides : Decides is_true_reply IsTrueReply
true_reply_decides es e =
    let reply : Reply = reply_to e.request e.stamp (cell_of (key_of e.request) None es) in
    (same_reply_tells e.reply reply, reply_same e.reply reply)

comes_after_tells : (last : Option Entry) (e : Entry) →
    (comes_after last e ≡ true → ComesAfter last e) × (ComesAfter last e → comes_after last e ≡ true)
comes_after_tells None e = (λ h. tt, λ h. refl)
comes_after_tells (Some before) e = (λ h. grind (arith, nat_tests), λ h. grind (arith, nat_tests))

in_shard_tells : (shards : ℕ) (e : Entry) →
    (nat_le 1 e.stamp && (nat_lt e.stamp (2 ^ 62) && e.shard == key_of e.request % shards)) ≡ true →
    IsInShard shards e
in_shard_tells shards e h =
    let p = and_parts (nat_le 1 e.stamp) (nat_lt e.stamp (2 ^ 62) && e.shard == key_of e.request % shards) h in
    let q = and_parts (nat_lt e.stamp (2 ^ 62)) (e.shard == key_of e.request % shards) p.1 in
    record {
      from_one = leb-true 1 e.stamp p.0;
      below_end = ltb-true e.stamp (2 ^ 62) q.0;
      shard = eqb-true e.shard (key_of e.request % shards) q.1;
    }

in_shard_passes : (shards : ℕ) (e : Entry) → IsInShard shards e →
    (nat_le 1 e.stamp && (nat_lt e.stamp (2 ^ 62) && e.shard == key_of e.request % shards)) ≡ true
in_shard_passes shards e h =
    and_from (nat_le 1 e.stamp) (nat_lt e.stamp (2 ^ 62) && e.shard == key_of e.request % shards)
    (le-leb 1 e.stamp h.from_one)
    (and_from (nat_lt e.stamp (2 ^ 62)) (e.shard == key_of e.request % shards)
    (lt-ltb e.stamp (2 ^ 62) h.below_end) (eq-eqb e.shard (key_of e.request % shards) h.shard))

pub orderly_decides : (shards : ℕ) → Decides (is_orderly shards) (IsOrderly shards)
orderly_decides shards es e =
    let shard : Bool = nat_le 1 e.stamp && (nat_lt e.stamp (2 ^ 62) && e.shard == key_of e.request % shards) in
    let after : Bool = comes_after (last_of es) e in (
      λ h. let p : (shard ≡ true) × (after ≡ true) = and_parts shard after h in record {
        in_shard = in_shard_tells shards e p.0;
        in_order = (comes_after_tells (last_of es) e).0 p.1;
      },
      λ h. and_from shard after (in_shard_passes shards e h.in_shard)
          ((comes_after_tells (last_of es) e).1 h.in_order),
    )
