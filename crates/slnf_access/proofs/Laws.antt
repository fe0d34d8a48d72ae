-- The laws of maps, legal lists and paths that crates above cite.
use Rattle.std.proofs.Common.{◌≡◌, ℕ, Option, Some, None, List, [], ◌∷◌, ◌++◌, refl}
use Rattle.slnf_access.specs.declared.requests.Held.{Held}
use Rattle.slnf_access.specs.declared.requests.Entry.{Entry}
use Rattle.slnf_access.specs.declared.requests.Request.{Request}
use Rattle.slnf_access.specs.declared.requests.Request.TheVariants.{Read, PutIfAbsent, ReplaceIf, DeleteIf}
use Rattle.slnf_access.specs.Map.{reply_to, cell_step, cell_of, Cells, map_after, IsLegalFrom, CanReply}
use Rattle.slnf_access.specs.Machines.{Stand, Machine, stand_step, stand_after, IsPath}

-- the cell after two lists, one after the other
pub cell_of-append : (key : ℕ) (held : Option Held) (xs ys : List Entry)
    → cell_of key held (xs ++ ys) ≡ cell_of key (cell_of key held xs) ys
cell_of-append key held [] ys = refl
cell_of-append key held (x ∷ xs) ys = cell_of-append key (cell_step key held x) xs ys

-- a list is legal where its front is, and its back on the map that the front makes
pub legal-append : (cells : Cells) (xs ys : List Entry)
    → IsLegalFrom cells xs → IsLegalFrom (map_after cells xs) ys → IsLegalFrom cells (xs ++ ys)
legal-append cells [] ys h k = k
legal-append cells (x ∷ xs) ys h k = (h.0, legal-append (map_after cells (x ∷ [])) xs ys h.1 k)

-- the front of a legal list is legal
pub legal-front : (cells : Cells) (xs ys : List Entry) → IsLegalFrom cells (xs ++ ys) → IsLegalFrom cells xs
legal-front cells [] ys h = tt
legal-front cells (x ∷ xs) ys h = (h.0, legal-front (map_after cells (x ∷ [])) xs ys h.1)

-- and so is its back, on the map that the front makes
pub legal-back : (cells : Cells) (xs ys : List Entry) → IsLegalFrom cells (xs ++ ys) → IsLegalFrom (map_after cells xs) ys
legal-back cells [] ys h = h
legal-back cells (x ∷ xs) ys h = legal-back (map_after cells (x ∷ [])) xs ys h.1

-- a reply of the map is one that the access can have
pub can_reply_to : (request : Request) (stamp : ℕ) (held : Option Held) → CanReply request (reply_to request stamp held)
can_reply_to (Read key) stamp None = tt
can_reply_to (Read key) stamp (Some held) = tt
can_reply_to (PutIfAbsent key value) stamp None = tt
can_reply_to (PutIfAbsent key value) stamp (Some held) = tt
can_reply_to (ReplaceIf key version value) stamp held = tt
can_reply_to (DeleteIf key version) stamp held = tt

-- where an item stands after two lists, one after the other
pub stand_after-append : {F : Type 0} (machine : Machine F) (stand : Stand F) (xs ys : List Entry)
    → stand_after machine stand (xs ++ ys) ≡ stand_after machine (stand_after machine stand xs) ys
stand_after-append machine stand [] ys = refl
stand_after-append machine stand (x ∷ xs) ys = stand_after-append machine (stand_step machine stand x) xs ys

-- a path goes on by a path from where it stands
pub path-append : {F : Type 0} (machine : Machine F) (stand : Stand F) (xs ys : List Entry)
    → IsPath machine stand xs → IsPath machine (stand_after machine stand xs) ys → IsPath machine stand (xs ++ ys)
path-append machine stand [] ys h k = k
path-append machine stand (x ∷ xs) ys h k = (h.0, path-append machine (stand_step machine stand x) xs ys h.1 k)

-- the front of a path is a path
pub path-front : {F : Type 0} (machine : Machine F) (stand : Stand F) (xs ys : List Entry)
    → IsPath machine stand (xs ++ ys) → IsPath machine stand xs
path-front machine stand [] ys h = tt
path-front machine stand (x ∷ xs) ys h = (h.0, path-front machine (stand_step machine stand x) xs ys h.1)

-- and its back is one from where the front stands
pub path-back : {F : Type 0} (machine : Machine F) (stand : Stand F) (xs ys : List Entry)
    → IsPath machine stand (xs ++ ys) → IsPath machine (stand_after machine stand xs) ys
path-back machine stand [] ys h = h
path-back machine stand (x ∷ xs) ys h = path-back machine (stand_step machine stand x) xs ys h.1
