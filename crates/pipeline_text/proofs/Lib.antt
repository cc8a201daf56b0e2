mod lemmas
