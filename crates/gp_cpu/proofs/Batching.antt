-- A batch, read record by record.
use Rattle.std.proofs.Common.{◌≡◌, ◌+◌, ◌<◌, ◌≤◌, ℕ, List, [], ◌∷◌, ◌++◌, length, drop, get_or, refl, sym, ap, ◌∙◌, subst, append_assoc}
use Rattle.std.proofs.lemmas.List.{append-nil, drop_more, drop_all}
use Rattle.gp_ring.specs.PlainRing.{record_in}
use Rattle.gp_cpu.specs.declared.record.CpuRecord.{CpuRecord}
use Rattle.gp_cpu.specs.Records.{cpu_record_of}
use Rattle.gp_cpu.specs.Batch.{BeginsWithRecord, AreRecords, records_in, first_words, words_behind}

-- The records so far, and those that the rest spells with the tags from the n-th on.
pub record IsRead (words tags rest : List ℕ) (done : List CpuRecord) (n : ℕ) : Type 0 where
  pub rest_are : AreRecords rest (drop n tags)
  pub whole : done ++ records_in rest (drop n tags) ≡ records_in words tags

pub read_none : (words tags : List ℕ) → AreRecords words tags → IsRead words tags words [] 0
read_none words tags are = record { rest_are = are; whole = refl }

module _ (words tags rest : List ℕ) (done : List CpuRecord) (n tag : ℕ) (is : IsRead words tags rest done n) (within : n < length tags) (at : get_or tags n 0 ≡ tag) where
  behind : drop n tags ≡ tag ∷ drop (n + 1) tags
  behind = drop_more tags n 0 within ∙ ap (λ (t : ℕ). t ∷ drop (n + 1) tags) at

  some : AreRecords rest (tag ∷ drop (n + 1) tags)
  some = subst (λ (ts : List ℕ). AreRecords rest ts) behind is.rest_are

  pub read_first : BeginsWithRecord rest
  read_first = some.0

  pub read_more : (it : CpuRecord) → it ≡ cpu_record_of (record_in 1 tag (first_words rest))
      → IsRead words tags (words_behind rest) (done ++ it ∷ []) (n + 1)
  read_more it is_first = record {
    rest_are = some.1;
    whole =
        append_assoc done (it ∷ []) (records_in (words_behind rest) (drop (n + 1) tags))
        ∙ ap (λ (x : CpuRecord). done ++ x ∷ records_in (words_behind rest) (drop (n + 1) tags)) is_first
        ∙ ap (λ (ts : List ℕ). done ++ records_in rest ts) (sym behind)
        ∙ is.whole;
  }

pub read_all : (words tags rest : List ℕ) (done : List CpuRecord) (n : ℕ) → IsRead words tags rest done n → length tags ≤ n
    → done ≡ records_in words tags
read_all words tags rest done n is over =
    sym (append-nil done) ∙ ap (λ (ts : List ℕ). done ++ records_in rest ts) (sym (drop_all n tags over)) ∙ is.whole
