-- What callers of a view know of it.
use Rattle.std.proofs.Common.{◌≡◌, ℕ, ◌+◌, ◌≤◌, Bool, true, false, cond, List, length, drop, Option, Some, None, Result, Ok, Err, get_or, get_or-drop, length-drop, refl, ap, subst, arith}
use Rattle.std.specs.Option.{option_map_or}
use Rattle.std.proofs.lemmas.Bool.Decides.{nat_tests}
use Rattle.slnf_base.specs.declared.packets.Link.{Link}
use Rattle.slnf_base.specs.declared.packets.Proto.{Proto}
use Rattle.slnf_base.specs.declared.packets.Reason.{Reason}
use Rattle.slnf_base.specs.declared.packets.Reason.TheVariants.{NotIpv4, Fragment, Short}
use Rattle.slnf_view.specs.declared.View.{View}
use Rattle.slnf_view.specs.Field.{word_at}
use Rattle.slnf_view.specs.View.{ip_of, datagram_of, is_not_ipv4, is_fragment, is_short, header_length, transport_length, headers_length, proto_of, packet_of, viewed, view_of, IsViewOf, LiesWithin}

-- a test that came before an answer went the other way
passed : (test : Bool) (reason : Reason) (rest : Result View Reason) (view : View)
    → cond test (Err reason) rest ≡ Ok view → (test ≡ false) × (rest ≡ Ok view)
passed true reason rest view h = absurd (cc)
passed false reason rest view h = (refl, h)

-- the headers of a datagram that isn't short
whole : (p : List ℕ) → is_short p ≡ false
    → (20 ≤ header_length p) × (headers_length p ≤ length p) × (headers_length p ≤ word_at p 2)
whole p h = (grind (arith, nat_tests), grind (arith, nat_tests), grind (arith, nat_tests))

lies : (frame : List ℕ) (ip : ℕ) (proto : Option Proto) (view : View) → proto_of (drop ip frame) ≡ proto
    → is_short (drop ip frame) ≡ false → viewed ip (drop ip frame) proto ≡ Ok view → LiesWithin frame view
lies frame ip None view chosen fits h = absurd (cc)
lies frame ip (Some proto) view chosen fits h =
    let p = drop ip frame in
    let sizes = whole p fits in
    let both : headers_length p ≡ header_length p + transport_length proto =
    ap (λ (o : Option Proto). header_length p + option_map_or transport_length o 0) chosen in
    let seen : record { packet = packet_of proto p; ip = ip; l4 = ip + header_length p } ≡ view = cc in
    let high = get_or-drop ip frame 2 0 in
    let low = get_or-drop ip frame 3 0 in
    let after : ip + 3 ≡ ip + 2 + 1 = omega arith in
    let total : word_at p 2 ≡ word_at frame (ip + 2) =
    omega (arith, high, low, ap (λ (place : ℕ). get_or frame place 0) after) in
    subst (LiesWithin frame) seen
    (record { header = omega arith; transport = omega (arith, length-drop ip frame); total = omega arith })

-- a view is the view of the frame that it was made from
pub view_of-is_view : (link : Link) (frame : List ℕ) (view : View) → view_of link frame ≡ Ok view → IsViewOf frame view
view_of-is_view link frame view h = (link, h)

-- both headers of a frame that has a view lie in it
pub LiesWithin-from_view : (frame : List ℕ) (view : View) → IsViewOf frame view → LiesWithin frame view
LiesWithin-from_view frame view (link, h) =
    let p = datagram_of link frame in
    let ipv4 = passed (is_not_ipv4 link frame) NotIpv4 _ view h in
    let one = passed (is_fragment p) Fragment _ view ipv4.1 in
    let fits = passed (is_short p) Short _ view one.1 in
    lies frame (ip_of link) (proto_of p) view refl fits.0 fits.1
