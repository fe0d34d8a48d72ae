use Rattle.std.proofs.Common.{◌≡◌, ◌∙◌, ◌-◌, ℕ, List, ap, subst, sym}
use Rattle.slnf_sum.specs.Sum.{words_of, sum_of, Verifies}
use Rattle.slnf_gen.specs.Packets.{header_with, header_checksum, ipv4_header}
use Rattle.slnf_gen.proofs.CaptureLaws.{law_of_headers}
use Rattle.slnf_gen.proofs.packets.ipv4_header.Goals as goal

pub returns-clause-verifies : goal.returns-clause-verifies
unfolding ipv4_header header_checksum
returns-clause-verifies c =
    let number = c.args.number in
    let word = c.args.word in
    let summed = c.sum.ensures ∙ ap (λ (header : List ℕ). sum_of (words_of header)) c.header_with-blank.ensures in
    let is : c.header_with.result ≡ ipv4_header number word =
    c.header_with.ensures ∙ ap (λ s. header_with (65535 - s) number word) summed in
    subst (λ (header : List ℕ). Verifies (words_of header)) (sym is) (law_of_headers number word)
