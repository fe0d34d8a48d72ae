use Rattle.std.proofs.Common.{[], ◌++◌, Some, unwrap_or, ap, ◌∙◌, sym}
use Rattle.std.proofs.lemmas.Result.{on_ok_weaker}
use Rattle.slnf_shelf.proofs.FileLists.{with_file-at, find_file-at, find_file-none, find_file-put, KeepsOthers-put}
use Rattle.slnf_shelf.proofs.files.add_to_file.Goals as goal

pub returns-in-Some-clause-ok : goal.returns-in-Some-clause-ok
returns-in-Some-clause-ok c =
    let place = rw c.as_slice.ensures.value at (sym c.in-Some.ensures) in
    let put = with_file-at c.args.name.now c.add_bytes.new.bytes
    c.args.files.now.items c.in-Some.place c.index_mut.result.now place c.index_mut.ensures.value in
    let found = find_file-at c.args.name.now c.args.files.now.items
    c.in-Some.place c.index_mut.result.now place c.index_mut.ensures.value in
    on_ok_weaker c.add_bytes.result
    (λ more. find_file-put c.args.name.now c.add_bytes.new.bytes c.args.files.now.items _ put
    ∙ ap Some (more ∙ ap (λ o. unwrap_or o [] ++ c.args.piece.now) (sym found)))
    c.add_bytes.ensures.ok

pub returns-in-Some-clause-others : goal.returns-in-Some-clause-others
returns-in-Some-clause-others c =
    let place = rw c.as_slice.ensures.value at (sym c.in-Some.ensures) in
    KeepsOthers-put c.args.name.now c.add_bytes.new.bytes c.args.files.now.items _
    (with_file-at c.args.name.now c.add_bytes.new.bytes
    c.args.files.now.items c.in-Some.place c.index_mut.result.now place c.index_mut.ensures.value)

pub returns-in_ok-bytes-in-None-clause-ok : goal.returns-in_ok-bytes-in-None-clause-ok
returns-in_ok-bytes-in-None-clause-ok c =
    let place = rw c.as_slice.ensures.value at (sym c.in-None.ensures) in
    let found = find_file-none c.args.name.now [] c.args.files.now.items place in
    on_ok_weaker c.put_file.result
    (λ put. put ∙ ap Some (c.from_vec.ensures ∙ c.in_ok-bytes-in-None.ensures.items
    ∙ ap (λ o. unwrap_or o [] ++ c.args.piece.now) (sym found)))
    c.put_file.ensures.ok
