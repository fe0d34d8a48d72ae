use Rattle.std.proofs.Common.{ℕ, List, [], ◌∷◌, ◌++◌, ap, ◌∙◌, sym}
use Rattle.slnf_shelf.specs.declared.files.Stored.{Stored}
use Rattle.slnf_shelf.proofs.FileLists.{with_file-at, with_file-none, find_file-put, KeepsOthers-put}
use Rattle.slnf_shelf.proofs.files.put_file.Goals as goal

pub returns-in-Some-clause-ok : goal.returns-in-Some-clause-ok
returns-in-Some-clause-ok c =
    let place = rw c.as_slice.ensures.value at (sym c.in-Some.ensures) in
    find_file-put c.args.name.now c.args.bytes c.args.files.now.items _
    (with_file-at c.args.name.now c.args.bytes c.args.files.now.items
    c.in-Some.place c.index_mut.result.now place c.index_mut.ensures.value)

pub returns-in-Some-clause-others : goal.returns-in-Some-clause-others
returns-in-Some-clause-others c =
    let place = rw c.as_slice.ensures.value at (sym c.in-Some.ensures) in
    KeepsOthers-put c.args.name.now c.args.bytes c.args.files.now.items _
    (with_file-at c.args.name.now c.args.bytes c.args.files.now.items
    c.in-Some.place c.index_mut.result.now place c.index_mut.ensures.value)

pub returns-in_ok-push-in-None-clause-ok : goal.returns-in_ok-push-in-None-clause-ok
returns-in_ok-push-in-None-clause-ok c =
    let place = rw c.as_slice.ensures.value at (sym c.in-None.ensures) in
    let named : List ℕ → List Stored = λ name. c.args.files.now.items ++ record { name = name; bytes = c.args.bytes } ∷ [] in
    find_file-put c.args.name.now c.args.bytes c.args.files.now.items c.push.new.self.items
    (c.in_ok-push-in-None.ensures.items ∙ ap named (c.from_string-name.ensures ∙ c.in_ok-from_str-in-None.ensures.ok)
    ∙ sym (with_file-none c.args.name.now c.args.bytes c.args.files.now.items place))

pub returns-in_ok-push-in-None-clause-others : goal.returns-in_ok-push-in-None-clause-others
returns-in_ok-push-in-None-clause-others c =
    let place = rw c.as_slice.ensures.value at (sym c.in-None.ensures) in
    let named : List ℕ → List Stored = λ name. c.args.files.now.items ++ record { name = name; bytes = c.args.bytes } ∷ [] in
    KeepsOthers-put c.args.name.now c.args.bytes c.args.files.now.items c.push.new.self.items
    (c.in_ok-push-in-None.ensures.items ∙ ap named (c.from_string-name.ensures ∙ c.in_ok-from_str-in-None.ensures.ok)
    ∙ sym (with_file-none c.args.name.now c.args.bytes c.args.files.now.items place))
