-- When there is room: free tags, and free words beside those that are passed over.
use Rattle.std.specs.Prelude.{ℕ, ◌+◌, Bool, ◌&&◌, nat_le}
use Rattle.gp_layout.specs.Place.{raise_of, after_of}

-- room for a record of `need` words at place `at` of `len`, where so many words and tags are in use
abbrev pub room_for_one : (len tags words_used tags_used at need : ℕ) → Bool
room_for_one len tags words_used tags_used at need = nat_le (tags_used + 1) tags && nat_le (words_used + raise_of at len need) len

-- room for a record of `first` words and one of `need` words behind it
abbrev pub room_for_two : (len tags words_used tags_used at first need : ℕ) → Bool
room_for_two len tags words_used tags_used at first need =
    nat_le (tags_used + 2) tags && nat_le (words_used + raise_of at len first + raise_of (after_of at len first) len need) len
