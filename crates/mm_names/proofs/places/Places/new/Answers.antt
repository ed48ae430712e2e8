use Rattle.std.proofs.Common.{◌≡◌, ◌*◌, None, ap, length, replicate, arith, ◌∙◌, sym, vec_len}
use Rattle.std.proofs.lemmas.Grind.{common_steps}
use Rattle.std.proofs.lemmas.List.{length-replicate}
use Rattle.mm_names.proofs.Lemmas.Places.{names_in-none, no_length}
use Rattle.mm_names.proofs.places.Places.new.Goals as goal

pub invariant_of-result : goal.invariant_of-result
invariant_of-result c =
    let all : c.lengths.lengths.items ≡ replicate c.args.numbers None = c.lengths.invariant.0 ∙ ap (λ n. replicate n None) (omega arith) in
    let size : length c.lengths.lengths.items ≡ c.args.numbers = ap length all ∙ length-replicate c.args.numbers None in
    let bytes : length c.in_ok-bytes.bytes.items ≡ vec_len c.in_ok-bytes.bytes = omega (arith, c.in_ok-bytes.bytes.ok) in
    record {
      room = bytes ∙ c.in_ok-bytes.ensures.len ∙ ap (λ n. n * c.args.name_bytes) (sym size);
      numbers = (omega arith, omega arith);
      wide = (omega arith, omega arith);
      fits = λ n l is. no_length c.args.numbers n l (rw all at is);
    }

pub returns : goal.returns
returns c =
    let all : c.lengths.lengths.items ≡ replicate c.args.numbers None = c.lengths.invariant.0 ∙ ap (λ n. replicate n None) (omega arith) in
    rw all (ap (λ names. record { names = names; name_bytes = c.args.name_bytes }) (names_in-none c.args.name_bytes c.args.numbers c.in_ok-bytes.bytes.items))

pub push_reserved-requires : goal.push_reserved-requires
push_reserved-requires c = grind (arith, common_steps)

pub lengths-preserved : goal.lengths-preserved
lengths-preserved c = grind (arith, common_steps)
