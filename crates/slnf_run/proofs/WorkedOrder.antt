-- Worked rows.
use Rattle.std.proofs.Common.{◌≡◌, ℕ, ◌==◌, List, [], ◌∷◌, length, cond, refl, arith}
use Rattle.slnf_access.specs.declared.requests.Entry.{Entry}
use Rattle.slnf_access.specs.declared.requests.Request.TheVariants.{Read}
use Rattle.slnf_access.specs.declared.requests.Reply.TheVariants.{Absent}
use Rattle.slnf_run.specs.Scheduled.{greatest, in_order}
use Rattle.slnf_run.specs.Made.{Grown, IsMade, HaveParts}

abbrev many : List Entry
many = record {
  stamp = 1;
  shard = 0;
  incarnation = 0;
  item = 0;
  request = Read (record { 0 = 0 });
  reply =
      Absent;
} ∷ record {
  stamp = 2;
  shard = 0;
  incarnation = 0;
  item = 1;
  request = Read (record { 0 = 0 });
  reply =
      Absent;
} ∷ record {
  stamp = 3;
  shard = 0;
  incarnation = 0;
  item = 2;
  request = Read (record { 0 = 0 });
  reply =
      Absent;
} ∷ record {
  stamp = 4;
  shard = 0;
  incarnation = 0;
  item = 3;
  request = Read (record { 0 = 0 });
  reply =
      Absent;
} ∷ record {
  stamp = 5;
  shard = 0;
  incarnation = 0;
  item = 4;
  request = Read (record { 0 = 0 });
  reply =
      Absent;
} ∷ record {
  stamp = 6;
  shard = 0;
  incarnation = 0;
  item = 5;
  request = Read (record { 0 = 0 });
  reply =
      Absent;
} ∷ record {
  stamp = 7;
  shard = 0;
  incarnation = 0;
  item = 6;
  request = Read (record { 0 = 0 });
  reply =
      Absent;
} ∷ record {
  stamp = 8;
  shard = 0;
  incarnation = 0;
  item = 7;
  request = Read (record { 0 = 0 });
  reply =
      Absent;
} ∷ record {
  stamp = 9;
  shard = 0;
  incarnation = 0;
  item = 8;
  request = Read (record { 0 = 0 });
  reply =
      Absent;
} ∷ record {
  stamp = 10;
  shard = 0;
  incarnation = 0;
  item = 9;
  request = Read (record { 0 = 0 });
  reply =
      Absent;
} ∷ record {
  stamp = 11;
  shard = 0;
  incarnation = 0;
  item = 10;
  request = Read (record { 0 = 0 });
  reply =
      Absent;
} ∷ record {
  stamp = 12;
  shard = 0;
  incarnation = 0;
  item = 11;
  request = Read (record { 0 = 0 });
  reply =
      Absent;
} ∷ record {
  stamp = 13;
  shard = 0;
  incarnation = 0;
  item = 12;
  request = Read (record { 0 = 0 });
  reply =
      Absent;
} ∷ record {
  stamp = 14;
  shard = 0;
  incarnation = 0;
  item = 13;
  request = Read (record { 0 = 0 });
  reply =
      Absent;
} ∷ record {
  stamp = 15;
  shard = 0;
  incarnation = 0;
  item = 14;
  request = Read (record { 0 = 0 });
  reply =
      Absent;
} ∷ record {
  stamp = 16;
  shard = 0;
  incarnation = 0;
  item = 15;
  request = Read (record { 0 = 0 });
  reply =
      Absent;
} ∷ record {
  stamp = 17;
  shard = 0;
  incarnation = 0;
  item = 16;
  request = Read (record { 0 = 0 });
  reply =
      Absent;
} ∷ record {
  stamp = 18;
  shard = 0;
  incarnation = 0;
  item = 17;
  request = Read (record { 0 = 0 });
  reply =
      Absent;
} ∷ record {
  stamp = 19;
  shard = 0;
  incarnation = 0;
  item = 18;
  request = Read (record { 0 = 0 });
  reply =
      Absent;
} ∷ record {
  stamp = 20;
  shard = 0;
  incarnation = 0;
  item = 19;
  request = Read (record { 0 = 0 });
  reply =
      Absent;
} ∷ record {
  stamp = 21;
  shard = 0;
  incarnation = 0;
  item = 20;
  request = Read (record { 0 = 0 });
  reply =
      Absent;
} ∷ record {
  stamp = 22;
  shard = 0;
  incarnation = 0;
  item = 21;
  request = Read (record { 0 = 0 });
  reply =
      Absent;
} ∷ record {
  stamp = 23;
  shard = 0;
  incarnation = 0;
  item = 22;
  request = Read (record { 0 = 0 });
  reply =
      Absent;
} ∷ record {
  stamp = 24;
  shard = 0;
  incarnation = 0;
  item = 23;
  request = Read (record { 0 = 0 });
  reply =
      Absent;
} ∷ record {
  stamp = 25;
  shard = 0;
  incarnation = 0;
  item = 24;
  request = Read (record { 0 = 0 });
  reply =
      Absent;
} ∷ record {
  stamp = 26;
  shard = 0;
  incarnation = 0;
  item = 25;
  request = Read (record { 0 = 0 });
  reply =
      Absent;
} ∷ record {
  stamp = 27;
  shard = 0;
  incarnation = 0;
  item = 26;
  request = Read (record { 0 = 0 });
  reply =
      Absent;
} ∷ record {
  stamp = 28;
  shard = 0;
  incarnation = 0;
  item = 27;
  request = Read (record { 0 = 0 });
  reply =
      Absent;
} ∷ record {
  stamp = 29;
  shard = 0;
  incarnation = 0;
  item = 28;
  request = Read (record { 0 = 0 });
  reply =
      Absent;
} ∷ record {
  stamp = 30;
  shard = 0;
  incarnation = 0;
  item = 29;
  request = Read (record { 0 = 0 });
  reply =
      Absent;
} ∷ record {
  stamp = 31;
  shard = 0;
  incarnation = 0;
  item = 30;
  request = Read (record { 0 = 0 });
  reply =
      Absent;
} ∷ record {
  stamp = 32;
  shard = 0;
  incarnation = 0;
  item = 31;
  request = Read (record { 0 = 0 });
  reply =
      Absent;
} ∷ record {
  stamp = 33;
  shard = 0;
  incarnation = 0;
  item = 32;
  request = Read (record { 0 = 0 });
  reply =
      Absent;
} ∷ record {
  stamp = 34;
  shard = 0;
  incarnation = 0;
  item = 33;
  request = Read (record { 0 = 0 });
  reply =
      Absent;
} ∷ record {
  stamp = 35;
  shard = 0;
  incarnation = 0;
  item = 34;
  request = Read (record { 0 = 0 });
  reply =
      Absent;
} ∷ record {
  stamp = 36;
  shard = 0;
  incarnation = 0;
  item = 35;
  request = Read (record { 0 = 0 });
  reply =
      Absent;
} ∷ record {
  stamp = 37;
  shard = 0;
  incarnation = 0;
  item = 36;
  request = Read (record { 0 = 0 });
  reply =
      Absent;
} ∷ record {
  stamp = 38;
  shard = 0;
  incarnation = 0;
  item = 37;
  request = Read (record { 0 = 0 });
  reply =
      Absent;
} ∷ record {
  stamp = 39;
  shard = 0;
  incarnation = 0;
  item = 38;
  request = Read (record { 0 = 0 });
  reply =
      Absent;
} ∷ record {
  stamp = 40;
  shard = 0;
  incarnation = 0;
  item = 39;
  request = Read (record { 0 = 0 });
  reply =
      Absent;
} ∷ record {
  stamp = 41;
  shard = 0;
  incarnation = 0;
  item = 40;
  request = Read (record { 0 = 0 });
  reply =
      Absent;
} ∷ record {
  stamp = 42;
  shard = 0;
  incarnation = 0;
  item = 41;
  request = Read (record { 0 = 0 });
  reply =
      Absent;
} ∷ record {
  stamp = 43;
  shard = 0;
  incarnation = 0;
  item = 42;
  request = Read (record { 0 = 0 });
  reply =
      Absent;
} ∷ record {
  stamp = 44;
  shard = 0;
  incarnation = 0;
  item = 43;
  request = Read (record { 0 = 0 });
  reply =
      Absent;
} ∷ record {
  stamp = 45;
  shard = 0;
  incarnation = 0;
  item = 44;
  request = Read (record { 0 = 0 });
  reply =
      Absent;
} ∷ record {
  stamp = 46;
  shard = 0;
  incarnation = 0;
  item = 45;
  request = Read (record { 0 = 0 });
  reply =
      Absent;
} ∷ record {
  stamp = 47;
  shard = 0;
  incarnation = 0;
  item = 46;
  request = Read (record { 0 = 0 });
  reply =
      Absent;
} ∷ record {
  stamp = 48;
  shard = 0;
  incarnation = 0;
  item = 47;
  request = Read (record { 0 = 0 });
  reply =
      Absent;
} ∷ record {
  stamp = 49;
  shard = 0;
  incarnation = 0;
  item = 48;
  request = Read (record { 0 = 0 });
  reply =
      Absent;
} ∷ record {
  stamp = 50;
  shard = 0;
  incarnation = 0;
  item = 49;
  request = Read (record { 0 = 0 });
  reply =
      Absent;
} ∷ record {
  stamp = 51;
  shard = 0;
  incarnation = 0;
  item = 50;
  request = Read (record { 0 = 0 });
  reply =
      Absent;
} ∷ record {
  stamp = 52;
  shard = 0;
  incarnation = 0;
  item = 51;
  request = Read (record { 0 = 0 });
  reply =
      Absent;
} ∷ record {
  stamp = 53;
  shard = 0;
  incarnation = 0;
  item = 52;
  request = Read (record { 0 = 0 });
  reply =
      Absent;
} ∷ record {
  stamp = 54;
  shard = 0;
  incarnation = 0;
  item = 53;
  request = Read (record { 0 = 0 });
  reply =
      Absent;
} ∷ record {
  stamp = 55;
  shard = 0;
  incarnation = 0;
  item = 54;
  request = Read (record { 0 = 0 });
  reply =
      Absent;
} ∷ record {
  stamp = 56;
  shard = 0;
  incarnation = 0;
  item = 55;
  request = Read (record { 0 = 0 });
  reply =
      Absent;
} ∷ record {
  stamp = 57;
  shard = 0;
  incarnation = 0;
  item = 56;
  request = Read (record { 0 = 0 });
  reply =
      Absent;
} ∷ record {
  stamp = 58;
  shard = 0;
  incarnation = 0;
  item = 57;
  request = Read (record { 0 = 0 });
  reply =
      Absent;
} ∷ record {
  stamp = 59;
  shard = 0;
  incarnation = 0;
  item = 58;
  request = Read (record { 0 = 0 });
  reply =
      Absent;
} ∷ record {
  stamp = 60;
  shard = 0;
  incarnation = 0;
  item = 59;
  request = Read (record { 0 = 0 });
  reply =
      Absent;
} ∷ []

pub row_one : greatest (λ e. e.shard == 0) many ≡ 60
row_one = refl

pub row_two : length (in_order many) ≡ 60
row_two = refl

-- Two actors of one epoch and one of the next, on two shards: the first makes two accesses to shard 0 before the
-- second makes one to shard 1, which stands between them in order; the later epoch's comes after all.
abbrev one : Entry
one = record { stamp = 1; shard = 0; incarnation = 0; item = 0; request = Read (record { 0 = 0 }); reply = Absent }

abbrev two : Entry
two = record { stamp = 2; shard = 0; incarnation = 0; item = 1; request = Read (record { 0 = 0 }); reply = Absent }

abbrev three : Entry
three = record { stamp = 1; shard = 1; incarnation = 1; item = 0; request = Read (record { 0 = 1 }); reply = Absent }

abbrev four : Entry
four = record { stamp = 3; shard = 1; incarnation = 2; item = 0; request = Read (record { 0 = 1 }); reply = Absent }

abbrev epoch : ℕ → ℕ
epoch incarnation = cond (incarnation == 2) 1 0

pub row_made : Grown (IsMade epoch 2) [] (one ∷ two ∷ three ∷ four ∷ [])
row_made = (
  record { stamp = refl; shard = refl; reply = refl; epochs = tt },
  (
    record { stamp = refl; shard = refl; reply = refl; epochs = (omega arith, tt) },
    (
      record { stamp = refl; shard = refl; reply = refl; epochs = (omega arith, (omega arith, tt)) },
      (
        record { stamp = refl; shard = refl; reply = refl; epochs = (omega arith, (omega arith, (omega arith, tt))) },
        tt,
      ),
    ),
  ),
)

pub row_order : in_order (one ∷ two ∷ three ∷ four ∷ []) ≡ one ∷ three ∷ two ∷ four ∷ []
row_order = refl

pub row_parts : HaveParts 0 ((one ∷ two ∷ []) ∷ (three ∷ four ∷ []) ∷ []) (one ∷ two ∷ three ∷ four ∷ [])
row_parts = (refl, (refl, tt))
